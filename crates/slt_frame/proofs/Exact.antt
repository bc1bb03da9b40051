-- The theorems of specs/Exact.antt.
-- Assumes nothing.
use lib.Dec.{lit<}
use Rattle.run.proofs.Chain.{one_outcome}
use Rattle.frame.proofs.Exact.{packs}
use Rattle.slt_frame.specs.Exact.{FrameTells, FrameOnce}
use Rattle.packed.proofs.Exact.{tells}

pub frame_tells : FrameTells
frame_tells =
    record {
      map = λ format d tfci out commands answer after p. tells _ p.answer_is (packs.map_narrow format d tfci _ commands) (lit< tt);
      read = λ format xs d tfci commands answer x t c p. tells _ p.answer_is (packs.read_narrow format xs _ _ _) (lit< tt);
    }

pub frame_once : FrameOnce
frame_once =
    record {
      map = λ format d tfci out commands a b x y p r. (one_outcome p.answer_is r.answer_is, one_outcome p.out_is r.out_is);
      read = λ format xs d tfci commands a b x y s t u v p r.
          (one_outcome p.answer_is r.answer_is, one_outcome p.data_is r.data_is, one_outcome p.tfci_is r.tfci_is, one_outcome p.commands_is r.commands_is);
    }
