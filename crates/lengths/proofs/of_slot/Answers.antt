-- `lengths::of_slot` meets its contract.
use Rattle.lengths.specs.Rule.{slot_lengths_of}
use Rattle.lengths.proofs.Laws.{head_refused, head_passed}
use Rattle.lengths.proofs.of_slot.Goals as goal

pub returns-in_err-check_frame_head : goal.returns-in_err-check_frame_head
returns-in_err-check_frame_head c = head_refused _ _ _ _ _ c.from_residual.ensures.1 c.in_err-check_frame_head.ensures

pub returns : goal.returns
unfolding slot_lengths_of
returns c =
    let s = c.sizes_of-s.ensures in
    head_passed _ c.in_ok-check_frame_head.ensures (rw (s.data_is, s.tfci_is, s.slot_is) at c.tell.ensures)
