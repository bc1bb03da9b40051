-- The theorems of specs/Exact.antt.
-- Assumes nothing.
use lib.Dec.{lit<}
use Rattle.run.proofs.Chain.{one_outcome}
use Rattle.dpcch.proofs.Exact.{packs, command_fits}
use Rattle.slt_dpcch.specs.Exact.{DpcchTells, DpcchOnce}
use Rattle.packed.proofs.Exact.{tells}

pub dpcch_tells : DpcchTells
dpcch_tells =
    record {
      map = λ format slot tpc tfci fbi out answer after p. tells _ p.answer_is (packs.map_narrow format slot tpc tfci fbi _) (lit< tt);
      read = λ format slot xs tfci fbi answer x t p. tells _ p.answer_is (packs.read_narrow format slot xs _ _) (command_fits format slot xs _ _);
      frame_map = λ format tfci fbi out commands answer after p. tells _ p.answer_is (packs.frame_map_narrow format tfci fbi _ commands) (lit< tt);
      frame_read = λ format xs tfci fbi commands answer x t u p. tells _ p.answer_is (packs.frame_read_narrow format xs _ _ _) (lit< tt);
    }

pub dpcch_once : DpcchOnce
dpcch_once =
    record {
      map = λ format slot tpc tfci fbi out a b x y p r. (one_outcome p.answer_is r.answer_is, one_outcome p.out_is r.out_is);
      read = λ format slot xs tfci fbi a b x y s t p r.
          (one_outcome p.answer_is r.answer_is, one_outcome p.tfci_is r.tfci_is, one_outcome p.fbi_is r.fbi_is);
      frame_map = λ format tfci fbi out commands a b x y p r. (one_outcome p.answer_is r.answer_is, one_outcome p.out_is r.out_is);
      frame_read = λ format xs tfci fbi commands a b x y s t u v p r.
          (one_outcome p.answer_is r.answer_is, one_outcome p.tfci_is r.tfci_is, one_outcome p.fbi_is r.fbi_is, one_outcome p.commands_is r.commands_is);
    }
