-- The theorems of specs/Exact.antt.
-- Assumes nothing.
use lib.Dec.{lit<}
use Rattle.run.proofs.Chain.{one_outcome}
use Rattle.pccpch.proofs.Exact.{packs}
use Rattle.slt_pccpch.specs.Exact.{PccpchTells, PccpchOnce}
use Rattle.packed.proofs.Exact.{tells}

pub pccpch_tells : PccpchTells
pccpch_tells =
    record {
      map = λ d antenna1 antenna2 answer x y p. tells _ p.answer_is (packs.map_narrow d _ _) (lit< tt);
      read = λ antenna1 antenna2 d answer after p. tells _ p.answer_is (packs.read_narrow antenna1 antenna2 _) (lit< tt);
    }

pub pccpch_once : PccpchOnce
pccpch_once =
    record {
      map = λ d antenna1 antenna2 a b x y s t p r.
          (one_outcome p.answer_is r.answer_is, one_outcome p.antenna1_is r.antenna1_is, one_outcome p.antenna2_is r.antenna2_is);
      read = λ antenna1 antenna2 d a b x y p r. (one_outcome p.answer_is r.answer_is, one_outcome p.data_is r.data_is);
    }
