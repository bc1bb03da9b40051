-- The theorems of specs/Exact.antt.
-- Assumes nothing.
use lib.Dec.{lit<}
use Rattle.run.proofs.Chain.{one_outcome}
use Rattle.slot.proofs.Exact.{packs, command_fits}
use Rattle.slt_slot.specs.Exact.{SlotTells, SlotOnce}
use Rattle.packed.proofs.Exact.{tells}

pub slot_tells : SlotTells
slot_tells =
    record {
      map = λ format slot tpc d tfci out answer after p. tells _ p.answer_is (packs.map_narrow format slot tpc d tfci _) (lit< tt);
      read = λ format slot xs d tfci answer x t p. tells _ p.answer_is (packs.read_narrow format slot xs _ _) (command_fits format slot xs _ _);
    }

pub slot_once : SlotOnce
slot_once =
    record {
      map = λ format slot tpc d tfci out a b x y p r. (one_outcome p.answer_is r.answer_is, one_outcome p.out_is r.out_is);
      read = λ format slot xs d tfci a b x y s t p r.
          (one_outcome p.answer_is r.answer_is, one_outcome p.data_is r.data_is, one_outcome p.tfci_is r.tfci_is);
    }
