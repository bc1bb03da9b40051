-- The theorems of specs/Exact.antt.
-- Assumes nothing.
use lib.Dec.{lit<}
use Rattle.run.proofs.Chain.{one_outcome}
use Rattle.aich.proofs.Exact.{packs}
use Rattle.slt_aich.specs.Exact.{AichTells, AichOnce}
use Rattle.packed.proofs.Exact.{tells}

pub aich_tells : AichTells
aich_tells =
    record {
      map = λ indicators values answer after p. tells _ p.answer_is (packs.map_narrow indicators _) (lit< tt);
      read = λ values indicators answer after p. tells _ p.answer_is (packs.read_narrow values _) (lit< tt);
      map_available = λ available indicators values answer after p. tells _ p.answer_is (packs.map_available_narrow available indicators _) (lit< tt);
      read_available = λ available values indicators answer after p. tells _ p.answer_is (packs.read_available_narrow available values _) (lit< tt);
    }

pub aich_once : AichOnce
aich_once =
    record {
      map = λ indicators values a b x y p r. (one_outcome p.answer_is r.answer_is, one_outcome p.values_is r.values_is);
      read = λ values indicators a b x y p r. (one_outcome p.answer_is r.answer_is, one_outcome p.indicators_is r.indicators_is);
      map_available = λ available indicators values a b x y p r. (one_outcome p.answer_is r.answer_is, one_outcome p.values_is r.values_is);
      read_available = λ available values indicators a b x y p r. (one_outcome p.answer_is r.answer_is, one_outcome p.indicators_is r.indicators_is);
    }
