-- `lengths::of_dpcch` meets its contract.
use Rattle.lengths.specs.Rule.{dpcch_lengths_of}
use Rattle.lengths.proofs.Laws.{head_refused, head_passed}
use Rattle.lengths.proofs.of_dpcch.Goals as goal

pub returns-in_err-check_frame_head : goal.returns-in_err-check_frame_head
returns-in_err-check_frame_head c = head_refused _ _ _ _ _ c.from_residual.ensures.1 c.in_err-check_frame_head.ensures

pub returns : goal.returns
unfolding dpcch_lengths_of
returns c =
    head_passed _ c.in_ok-check_frame_head.ensures (rw (c.format_of-f.ensures) at c.tell.ensures)
