-- `lengths::of_frame` meets its contract.
use native.Mathlib.Omega.{arith}
use Rattle.lengths.specs.Rule.{frame_lengths_of}
use Rattle.lengths.proofs.Laws.{head_refused, head_passed}
use Rattle.lengths.proofs.of_frame.Goals as goal

pub returns-in_err-check_frame_head : goal.returns-in_err-check_frame_head
returns-in_err-check_frame_head c = head_refused _ _ _ _ _ c.from_residual.ensures.1 c.in_err-check_frame_head.ensures

pub tell_frame-requires : goal.tell_frame-requires
tell_frame-requires c =
    let s = c.sizes_of-s.ensures in
    let d = s.data_short in
    let t = s.tfci_short in
    let w = s.slot_short in
    (omega arith, omega arith, omega arith, omega arith)

pub returns : goal.returns
unfolding frame_lengths_of
returns c =
    let s = c.sizes_of-s.ensures in
    head_passed _ c.in_ok-check_frame_head.ensures (rw (s.data_is, s.tfci_is, s.slot_is) at c.tell_frame.ensures)
