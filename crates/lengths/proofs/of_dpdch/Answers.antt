-- `lengths::of_dpdch` meets its contract.
use native.Mathlib.Nat.{one-mul}
use Rattle.dpch.specs.Uplink.{dpdch_size}
use Rattle.lengths.specs.Rule.{dpdch_lengths_of}
use Rattle.lengths.proofs.Laws.{head_refused, head_passed}
use Rattle.lengths.proofs.of_dpdch.Goals as goal

pub returns-in_err-check_frame_head : goal.returns-in_err-check_frame_head
returns-in_err-check_frame_head c = head_refused _ _ _ _ _ c.from_residual.ensures.1 c.in_err-check_frame_head.ensures

pub returns : goal.returns
unfolding dpdch_lengths_of
returns c =
    rw (one-mul (dpdch_size c.args.format)) (head_passed _ c.in_ok-check_frame_head.ensures (rw (c.size_of-n.ensures) at c.tell_alike.ensures))
