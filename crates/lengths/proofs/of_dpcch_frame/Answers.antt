-- `lengths::of_dpcch_frame` meets its contract.
use native.Mathlib.Omega.{arith}
use Rattle.dpcch.proofs.Laws.{sizes}
use Rattle.lengths.specs.Rule.{dpcch_frame_lengths_of}
use Rattle.lengths.proofs.Laws.{head_refused, head_passed}
use Rattle.lengths.proofs.of_dpcch_frame.Goals as goal

pub returns-in_err-check_frame_head : goal.returns-in_err-check_frame_head
returns-in_err-check_frame_head c = head_refused _ _ _ _ _ c.from_residual.ensures.1 c.in_err-check_frame_head.ensures

pub tell_frame-requires : goal.tell_frame-requires
tell_frame-requires c =
    let s = sizes _ _ c.format_of-f.ensures in
    let t = s.tfci_short in
    let b = s.fbi_short in
    let w = s.slot_short in
    (omega arith, omega arith, omega arith, omega arith)

pub returns : goal.returns
unfolding dpcch_frame_lengths_of
returns c =
    head_passed _ c.in_ok-check_frame_head.ensures (rw (c.format_of-f.ensures) at c.tell_frame.ensures)
