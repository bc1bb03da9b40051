-- `compressed_read::slots::check_digits` meets its contract: slot by slot, up to the first that is refused.
use mathlib.Core.Path.{sym}
use native.Mathlib.Nat.{not-suc-le-zero}
use native.Mathlib.Omega.{arith}
use borrow.Author.Count.{below_more}
use Rattle.run.proofs.Chain.{chain_end, number_0}
use Rattle.run.proofs.Parts.{part_room}
use Rattle.dpch.specs.Compressed.{format_in}
use Rattle.frame.proofs.Laws.{slot_stops}
use Rattle.compressed.proofs.Laws.{checked_at}
use Rattle.compressed_read.proofs.slots.check_digits.Goals as goal

pub loop-k-init : goal.loop-k-init
loop-k-init c = λ j h. absurd (not-suc-le-zero h)

pub overflow_mul-i : goal.overflow_mul-i
overflow_mul-i c = omega (arith, part_room c.loop-k.k 15 c.row_sizes-s.result.slot c.loop-k-test.true, c.row_sizes-s.ensures)

pub overflow_add-j : goal.overflow_add-j
overflow_add-j c = omega (arith, part_room c.loop-k.k 15 c.row_sizes-s.result.slot c.loop-k-test.true, c.row_sizes-s.ensures)

pub slice_bounds-check_slot-start : goal.slice_bounds-check_slot-start
slice_bounds-check_slot-start c = omega (arith, part_room c.loop-k.k 15 c.row_sizes-s.result.slot c.loop-k-test.true, c.row_sizes-s.ensures, c.requires)

pub slice_bounds-check_slot-end : goal.slice_bounds-check_slot-end
slice_bounds-check_slot-end c = omega (arith, part_room c.loop-k.k 15 c.row_sizes-s.result.slot c.loop-k-test.true, c.row_sizes-s.ensures, c.requires)

pub overflow_cast-i : goal.overflow_cast-i
overflow_cast-i c = omega (arith, part_room c.loop-k.k 15 c.row_sizes-s.result.slot c.loop-k-test.true, c.row_sizes-s.ensures)

pub returns-in_err-check_slot : goal.returns-in_err-check_slot
returns-in_err-check_slot c =
    slot_stops 15 _ _ _ _ c.loop-k-test.true c.loop-k.invariant c.from_residual.ensures.1
    (checked_at (format_in c.args.kind c.args.format) c.args.first c.args.missing _ _ _ _ c.row_sizes-s.ensures.slot_is c.loop-k-test.true c.requires c.in_err-check_slot.ensures)

pub loop-k-preserved : goal.loop-k-preserved
loop-k-preserved c =
    below_more _ _ c.loop-k.invariant
    (number_0 (sym (checked_at (format_in c.args.kind c.args.format) c.args.first c.args.missing _ _ _ _ c.row_sizes-s.ensures.slot_is c.loop-k-test.true c.requires c.in_ok-check_slot.ensures)))

pub returns : goal.returns
returns c = sym (chain_end 15 _ (λ k h. c.loop-k.invariant k (omega arith)))
