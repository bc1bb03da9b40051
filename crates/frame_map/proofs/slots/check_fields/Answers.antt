-- `frame_map::slots::check_fields` meets its contract: slot by slot, up to the first that is refused.
use mathlib.Core.Path.{sym}
use Prim.Native.Nat.{◌+◌, ◌*◌, ◌≤◌}
use native.Mathlib.Nat.{not-suc-le-zero}
use native.Mathlib.Omega.{arith}
use borrow.Author.Count.{below_more}
use Rattle.run.proofs.Chain.{chain_end, number_0}
use Rattle.run.proofs.Parts.{part_room}
use Rattle.dpch.specs.Formats.{format_of}
use Rattle.frame.proofs.Laws.{fields_at, slot_stops}
use Rattle.frame_map.proofs.slots.check_fields.Goals as goal
use Rattle.frame_map.proofs.slots.check_fields.Goals.{In-loop-k}

rooms : (c : In-loop-k)
    → (c.loop-k.k * c.sizes_of-s.result.«data» + c.sizes_of-s.result.«data» ≤ 15 * c.sizes_of-s.result.«data»)
    × (c.loop-k.k * c.sizes_of-s.result.tfci + c.sizes_of-s.result.tfci ≤ 15 * c.sizes_of-s.result.tfci)
rooms c = (part_room _ 15 _ c.loop-k-test.true, part_room _ 15 _ c.loop-k-test.true)

pub loop-k-init : goal.loop-k-init
loop-k-init c = λ j h. absurd (not-suc-le-zero h)

pub overflow_mul-a : goal.overflow_mul-a
overflow_mul-a c = omega (arith, rooms (c), c.sizes_of-s.ensures)

pub overflow_add-e : goal.overflow_add-e
overflow_add-e c = omega (arith, rooms (c), c.sizes_of-s.ensures)

pub overflow_mul-b : goal.overflow_mul-b
overflow_mul-b c = omega (arith, rooms (c), c.sizes_of-s.ensures)

pub overflow_add-c : goal.overflow_add-c
overflow_add-c c = omega (arith, rooms (c), c.sizes_of-s.ensures)

pub slice_bounds-check_fields-start : goal.slice_bounds-check_fields-start
slice_bounds-check_fields-start c = omega (arith, rooms (goal.at.slice_bounds-check_fields-start c).In-loop-k, c.sizes_of-s.ensures, c.requires)

pub slice_bounds-check_fields-end : goal.slice_bounds-check_fields-end
slice_bounds-check_fields-end c = omega (arith, rooms (goal.at.slice_bounds-check_fields-end c).In-loop-k, c.sizes_of-s.ensures, c.requires)

pub slice_bounds-check_fields-start-in-loop-k : goal.slice_bounds-check_fields-start-in-loop-k
slice_bounds-check_fields-start-in-loop-k c = omega (arith, rooms (goal.at.slice_bounds-check_fields-start-in-loop-k c).In-loop-k, c.sizes_of-s.ensures, c.requires)

pub slice_bounds-check_fields-end-in-loop-k : goal.slice_bounds-check_fields-end-in-loop-k
slice_bounds-check_fields-end-in-loop-k c = omega (arith, rooms (goal.at.slice_bounds-check_fields-end-in-loop-k c).In-loop-k, c.sizes_of-s.ensures, c.requires)

pub overflow_cast-b : goal.overflow_cast-b
overflow_cast-b c = omega (arith, rooms (goal.at.overflow_cast-b c).In-loop-k, c.sizes_of-s.ensures)

pub overflow_cast-a : goal.overflow_cast-a
overflow_cast-a c = omega (arith, rooms (goal.at.overflow_cast-a c).In-loop-k, c.sizes_of-s.ensures)

pub returns-in_err-check_fields : goal.returns-in_err-check_fields
returns-in_err-check_fields c =
    let s = c.sizes_of-s.ensures in
    slot_stops 15 _ _ _ _ c.loop-k-test.true c.loop-k.invariant c.from_residual.ensures.1
    (fields_at (format_of c.args.format) _ _ c.args.commands.now _ _ _ _ s.data_is s.tfci_is c.in_err-check_fields.ensures)

pub loop-k-preserved : goal.loop-k-preserved
loop-k-preserved c =
    let s = c.sizes_of-s.ensures in
    below_more _ _ c.loop-k.invariant
    (number_0 (sym (fields_at (format_of c.args.format) _ _ c.args.commands.now _ _ _ _ s.data_is s.tfci_is c.in_ok-check_fields.ensures)))

pub returns : goal.returns
returns c = sym (chain_end 15 _ (λ k h. c.loop-k.invariant k (omega arith)))
