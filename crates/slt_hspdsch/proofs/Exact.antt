-- The theorems of specs/Exact.antt.
-- Assumes nothing.
use lib.Dec.{lit<}
use Rattle.run.proofs.Chain.{one_outcome}
use Rattle.hspdsch.proofs.Exact.{packs}
use Rattle.slt_hspdsch.specs.Exact.{HspdschTells, HspdschOnce}
use Rattle.packed.proofs.Exact.{tells}

pub hspdsch_tells : HspdschTells
hspdsch_tells =
    record {
      map = λ format d antenna1 antenna2 answer x y p. tells _ p.answer_is (packs.map_narrow format d _ _) (lit< tt);
      read = λ format antenna1 antenna2 d answer after p. tells _ p.answer_is (packs.read_narrow format antenna1 antenna2 _) (lit< tt);
    }

pub hspdsch_once : HspdschOnce
hspdsch_once =
    record {
      map = λ format d antenna1 antenna2 a b x y s t p r.
          (one_outcome p.answer_is r.answer_is, one_outcome p.antenna1_is r.antenna1_is, one_outcome p.antenna2_is r.antenna2_is);
      read = λ format antenna1 antenna2 d a b x y p r. (one_outcome p.answer_is r.answer_is, one_outcome p.data_is r.data_is);
    }
