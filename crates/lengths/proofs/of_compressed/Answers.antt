-- `lengths::of_compressed` meets its contract.
use native.Mathlib.Omega.{arith}
use Rattle.lengths.specs.Rule.{compressed_lengths_of}
use Rattle.lengths.proofs.Laws.{head_refused, head_passed, row_short}
use Rattle.lengths.proofs.of_compressed.Goals as goal

pub returns-in_err-check_gap_head : goal.returns-in_err-check_gap_head
returns-in_err-check_gap_head c = head_refused _ _ _ _ _ c.from_residual.ensures.1 (rw c.format_in-f.ensures at c.in_err-check_gap_head.ensures)

pub overflow_add-f : goal.overflow_add-f
overflow_add-f c = let s = row_short _ _ _ c.format_in-f.ensures in omega (arith, s.0)

pub tell_frame-requires : goal.tell_frame-requires
tell_frame-requires c =
    let s = row_short _ _ _ c.format_in-f.ensures in
    (omega (arith, c.transmitted-n.ensures), s.0, s.1, s.2)

pub returns : goal.returns
unfolding compressed_lengths_of
returns c =
    head_passed _ (rw c.format_in-f.ensures at c.in_ok-check_gap_head.ensures) (rw (c.transmitted-n.ensures, c.format_in-f.ensures) at c.tell_frame.ensures)
