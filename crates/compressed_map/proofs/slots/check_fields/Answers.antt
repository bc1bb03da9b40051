-- `compressed_map::slots::check_fields` meets its contract: slot by slot, up to the first that is refused.
use mathlib.Core.Path.{◌≡◌, sym, ◌∙◌}
use Prim.Native.Nat.{◌+◌, ◌*◌, ◌≤◌}
use native.Mathlib.Nat.{not-suc-le-zero}
use native.Mathlib.Omega.{arith}
use borrow.Author.Count.{below_more}
use lib.ListN.{length}
use Rattle.run.proofs.Chain.{chain_end, number_0}
use Rattle.run.proofs.Parts.{part_room}
use Rattle.dpch.specs.Compressed.{format_in}
use Rattle.frame.proofs.Laws.{fields_at, slot_stops}
use Rattle.compressed.proofs.Gap.{small_product}
use Rattle.compressed_map.proofs.slots.check_fields.Goals as goal
use Rattle.compressed_map.proofs.slots.check_fields.Goals.{In-loop-k}

rooms : (c : In-loop-k)
    → (c.loop-k.k * c.row_sizes-s.result.«data» + c.row_sizes-s.result.«data» ≤ c.transmitted-count.result * c.row_sizes-s.result.«data»)
    × (c.loop-k.k * c.row_sizes-s.result.tfci + c.row_sizes-s.result.tfci ≤ c.transmitted-count.result * c.row_sizes-s.result.tfci)
    × (c.transmitted-count.result * c.row_sizes-s.result.«data» ≤ 19200)
    × (c.transmitted-count.result * c.row_sizes-s.result.tfci ≤ 19200)
rooms c =
    let e = c.transmitted-count.ensures in
    let s = c.row_sizes-s.ensures in
    let few : c.transmitted-count.result ≤ 15 = omega arith in
    (part_room _ _ _ c.loop-k-test.true, part_room _ _ _ c.loop-k-test.true, small_product _ _ few s.data_short, small_product _ _ few s.tfci_short)

-- .. whose runs are as long as they say
lengths : (c : In-loop-k)
    → (length c.args.«data».now ≡ c.transmitted-count.result * c.row_sizes-s.result.«data»)
    × (length c.args.tfci.now ≡ c.transmitted-count.result * c.row_sizes-s.result.tfci)
    × (length c.args.commands.now ≡ c.transmitted-count.result)
lengths c =
    let e = c.transmitted-count.ensures in
    let s = c.row_sizes-s.ensures in
    let p = c.requires in
    (p.data_ok ∙ rw (e, s.data_is), p.tfci_ok ∙ rw (e, s.tfci_is), p.commands_ok ∙ sym e)

pub loop-k-init : goal.loop-k-init
loop-k-init c = λ j h. absurd (not-suc-le-zero h)

pub overflow_mul-a : goal.overflow_mul-a
overflow_mul-a c = omega (arith, rooms (goal.at.overflow_mul-a c).In-loop-k)

pub overflow_add-e : goal.overflow_add-e
overflow_add-e c = omega (arith, rooms (goal.at.overflow_add-e c).In-loop-k)

pub overflow_mul-b : goal.overflow_mul-b
overflow_mul-b c = omega (arith, rooms (goal.at.overflow_mul-b c).In-loop-k)

pub overflow_add-c : goal.overflow_add-c
overflow_add-c c = omega (arith, rooms (goal.at.overflow_add-c c).In-loop-k)

pub bounds-commands-k : goal.bounds-commands-k
bounds-commands-k c = omega (arith, lengths (goal.at.bounds-commands-k c).In-loop-k)

pub slice_bounds-check_fields-start : goal.slice_bounds-check_fields-start
slice_bounds-check_fields-start c = omega (arith, rooms (goal.at.slice_bounds-check_fields-start c).In-loop-k, lengths (goal.at.slice_bounds-check_fields-start c).In-loop-k)

pub slice_bounds-check_fields-end : goal.slice_bounds-check_fields-end
slice_bounds-check_fields-end c = omega (arith, rooms (goal.at.slice_bounds-check_fields-end c).In-loop-k, lengths (goal.at.slice_bounds-check_fields-end c).In-loop-k)

pub slice_bounds-check_fields-start-in-loop-k : goal.slice_bounds-check_fields-start-in-loop-k
slice_bounds-check_fields-start-in-loop-k c = omega (arith, rooms (goal.at.slice_bounds-check_fields-start-in-loop-k c).In-loop-k, lengths (goal.at.slice_bounds-check_fields-start-in-loop-k c).In-loop-k)

pub slice_bounds-check_fields-end-in-loop-k : goal.slice_bounds-check_fields-end-in-loop-k
slice_bounds-check_fields-end-in-loop-k c = omega (arith, rooms (goal.at.slice_bounds-check_fields-end-in-loop-k c).In-loop-k, lengths (goal.at.slice_bounds-check_fields-end-in-loop-k c).In-loop-k)

pub overflow_cast-b : goal.overflow_cast-b
overflow_cast-b c = omega (arith, rooms (goal.at.overflow_cast-b c).In-loop-k)

pub overflow_cast-a : goal.overflow_cast-a
overflow_cast-a c = omega (arith, rooms (goal.at.overflow_cast-a c).In-loop-k)

pub returns-in_err-check_fields : goal.returns-in_err-check_fields
returns-in_err-check_fields c =
    let s = c.row_sizes-s.ensures in
    let e = c.transmitted-count.ensures in
    slot_stops _ _ _ _ _ (rw e at c.loop-k-test.true) c.loop-k.invariant c.from_residual.ensures.1
    (fields_at (format_in c.args.kind c.args.format) _ _ c.args.commands.now _ _ _ _ s.data_is s.tfci_is c.in_err-check_fields.ensures)

pub loop-k-preserved : goal.loop-k-preserved
loop-k-preserved c =
    let s = c.row_sizes-s.ensures in
    below_more _ _ c.loop-k.invariant
    (number_0 (sym (fields_at (format_in c.args.kind c.args.format) _ _ c.args.commands.now _ _ _ _ s.data_is s.tfci_is c.in_ok-check_fields.ensures)))

pub returns : goal.returns
returns c =
    let e = c.transmitted-count.ensures in
    sym (chain_end _ _ (λ k h. c.loop-k.invariant k (omega arith)))
