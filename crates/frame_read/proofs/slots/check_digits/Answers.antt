-- `frame_read::slots::check_digits` meets its contract: slot by slot, up to the first that is refused.
use mathlib.Core.Path.{sym}
use native.Mathlib.Nat.{not-suc-le-zero}
use native.Mathlib.Omega.{arith}
use borrow.Author.Count.{below_more}
use Rattle.run.proofs.Chain.{chain_end, number_0}
use Rattle.run.proofs.Parts.{part_room}
use Rattle.frame.proofs.Laws.{digits_at, slot_stops}
use Rattle.frame_read.proofs.slots.check_digits.Goals as goal

pub loop-k-init : goal.loop-k-init
loop-k-init c = λ j h. absurd (not-suc-le-zero h)

pub overflow_mul-i : goal.overflow_mul-i
overflow_mul-i c = omega (arith, part_room c.loop-k.k 15 c.sizes_of-s.result.slot c.loop-k-test.true, c.sizes_of-s.ensures)

pub overflow_add-j : goal.overflow_add-j
overflow_add-j c = omega (arith, part_room c.loop-k.k 15 c.sizes_of-s.result.slot c.loop-k-test.true, c.sizes_of-s.ensures)

pub slice_bounds-check_part-start : goal.slice_bounds-check_part-start
slice_bounds-check_part-start c = omega (arith, part_room c.loop-k.k 15 c.sizes_of-s.result.slot c.loop-k-test.true, c.sizes_of-s.ensures, c.requires)

pub slice_bounds-check_part-end : goal.slice_bounds-check_part-end
slice_bounds-check_part-end c = omega (arith, part_room c.loop-k.k 15 c.sizes_of-s.result.slot c.loop-k-test.true, c.sizes_of-s.ensures, c.requires)

pub overflow_cast-i : goal.overflow_cast-i
overflow_cast-i c = omega (arith, part_room c.loop-k.k 15 c.sizes_of-s.result.slot c.loop-k-test.true, c.sizes_of-s.ensures)

pub returns-in_err-check_part : goal.returns-in_err-check_part
returns-in_err-check_part c =
    slot_stops 15 _ _ _ _ c.loop-k-test.true c.loop-k.invariant c.from_residual.ensures.1
    (digits_at _ _ _ _ _ c.sizes_of-s.ensures.slot_is c.loop-k-test.true c.requires c.in_err-check_part.ensures)

pub loop-k-preserved : goal.loop-k-preserved
loop-k-preserved c =
    below_more _ _ c.loop-k.invariant
    (number_0 (sym (digits_at _ _ _ _ _ c.sizes_of-s.ensures.slot_is c.loop-k-test.true c.requires c.in_ok-check_part.ensures)))

pub returns : goal.returns
returns c = sym (chain_end 15 _ (λ k h. c.loop-k.invariant k (omega arith)))
