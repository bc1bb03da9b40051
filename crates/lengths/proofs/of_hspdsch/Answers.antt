-- `lengths::of_hspdsch` meets its contract.
use Rattle.lengths.specs.Rule.{hspdsch_lengths_of}
use Rattle.lengths.proofs.Laws.{head_refused, head_passed}
use Rattle.lengths.proofs.of_hspdsch.Goals as goal

pub returns-in_err-check_frame_head : goal.returns-in_err-check_frame_head
returns-in_err-check_frame_head c = head_refused _ _ _ _ _ c.from_residual.ensures.1 c.in_err-check_frame_head.ensures

pub returns : goal.returns
unfolding hspdsch_lengths_of
returns c =
    head_passed _ c.in_ok-check_frame_head.ensures (rw (c.size_of-n.ensures) at c.tell.ensures)
