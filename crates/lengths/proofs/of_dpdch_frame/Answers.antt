-- `lengths::of_dpdch_frame` meets its contract.
use native.Mathlib.Omega.{arith}
use Rattle.dpdch.proofs.Laws.{slots_small}
use Rattle.lengths.specs.Rule.{dpdch_lengths_of}
use Rattle.lengths.proofs.Laws.{head_refused, head_passed}
use Rattle.lengths.proofs.of_dpdch_frame.Goals as goal

pub returns-in_err-check_frame_head : goal.returns-in_err-check_frame_head
returns-in_err-check_frame_head c = head_refused _ _ _ _ _ c.from_residual.ensures.1 c.in_err-check_frame_head.ensures

pub overflow_mul-frame : goal.overflow_mul-frame
overflow_mul-frame c = rw c.size_of-frame.ensures (let h = slots_small 15 c.args.format (omega arith) in omega arith)

pub returns : goal.returns
unfolding dpdch_lengths_of
returns c =
    head_passed _ c.in_ok-check_frame_head.ensures (rw (c.size_of-frame.ensures) at c.tell_alike.ensures)
