-- The theorems of specs/Exact.antt.
-- Assumes nothing.
use lib.Dec.{lit<}
use Rattle.run.proofs.Chain.{one_outcome}
use Rattle.antenna.proofs.Exact.{packs, command_fits}
use Rattle.slt_antenna.specs.Exact.{AntennaTells, AntennaOnce}
use Rattle.packed.proofs.Exact.{tells}

pub antenna_tells : AntennaTells
antenna_tells =
    record {
      map = λ format slot antenna tpc d tfci out answer after p. tells _ p.answer_is (packs.map_narrow format slot antenna tpc d tfci _) (lit< tt);
      read = λ format slot first second d tfci answer x t p. tells _ p.answer_is (packs.read_narrow format slot first second _ _) (command_fits format slot first second _ _);
    }

pub antenna_once : AntennaOnce
antenna_once =
    record {
      map = λ format slot antenna tpc d tfci out a b x y p r. (one_outcome p.answer_is r.answer_is, one_outcome p.out_is r.out_is);
      read = λ format slot first second d tfci a b x y s t p r.
          (one_outcome p.answer_is r.answer_is, one_outcome p.data_is r.data_is, one_outcome p.tfci_is r.tfci_is);
    }
