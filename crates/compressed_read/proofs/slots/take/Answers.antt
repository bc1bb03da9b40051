-- `compressed_read::slots::take` meets its contract: each turn takes the fields of one transmitted slot more.
use mathlib.Core.Path.{◌≡◌, sym, ◌∙◌}
use Prim.Native.Nat.{ℕ, ◌+◌, ◌*◌, ◌≤◌}
use native.Mathlib.Nat.{zero-mul}
use native.Mathlib.Omega.{arith}
use lib.ListN.{length}
use Rattle.run.proofs.Front.{front_none, front_length, front_store, front_all}
use Rattle.dpch.specs.Compressed.{format_in}
use Rattle.slot.specs.Rule.{data_size}
use Rattle.slot.proofs.Laws.{sound_row}
use Rattle.compressed.specs.Rule.{transmitted, number_of}
use Rattle.compressed.specs.Ready.{Turn}
use Rattle.compressed.proofs.Laws.{data_in_length, tfci_in_length, commands_in_length, command_of, slot_back, take_parts}
use Rattle.compressed_read.proofs.slots.take.Goals as goal
use Rattle.compressed_read.proofs.slots.take.Goals.{In-loop-t}

-- the parts of a turn are there, and their bounds are small
parts : (c : In-loop-t) {k : ℕ} → k ≡ number_of c.args.first c.args.missing c.loop-t.t
    → Turn (format_in c.args.kind c.args.format) c.row_sizes-s.result c.loop-t.t (length c.args.«data».now) (length c.args.tfci.now)
    (length c.args.commands.now) (format_in c.args.kind c.args.format).slot
    × (k * c.row_sizes-s.result.slot + c.row_sizes-s.result.slot ≤ length c.args.xs.now)
    × (k * c.row_sizes-s.result.slot + c.row_sizes-s.result.slot ≤ 20480)
parts c number = take_parts _ _ _ _ _ _ _ _ _ _ c.requires.0 c.row_sizes-s.ensures (rw c.transmitted-count.ensures at c.loop-t-test.true) number

pub loop-t-init : goal.loop-t-init
loop-t-init c =
    let room = c.requires.0 in
    let long = room.frame_ok in (
      rw zero-mul (front_none (data_in_length _ (sound_row _ _) _ _ room.gap_ok _ long ∙ sym room.fields.data_ok)),
      rw zero-mul (front_none (tfci_in_length _ (sound_row _ _) _ _ room.gap_ok _ long ∙ sym room.fields.tfci_ok)),
      front_none (commands_in_length _ (sound_row _ _) _ _ room.gap_ok _ long ∙ sym room.fields.commands_ok),
    )

pub number_of-k-requires : goal.number_of-k-requires
number_of-k-requires c = (omega (arith, c.requires.0.gap_ok), omega (arith, c.transmitted-count.ensures, c.loop-t-test.true))

pub overflow_mul-a : goal.overflow_mul-a
overflow_mul-a c = omega (arith, parts (goal.at.overflow_mul-a c).In-loop-t c.number_of-k.ensures)

pub overflow_add-e : goal.overflow_add-e
overflow_add-e c = omega (arith, parts (goal.at.overflow_add-e c).In-loop-t c.number_of-k.ensures)

pub overflow_mul-b : goal.overflow_mul-b
overflow_mul-b c = omega (arith, parts (goal.at.overflow_mul-b c).In-loop-t c.number_of-k.ensures)

pub overflow_add-c : goal.overflow_add-c
overflow_add-c c = omega (arith, parts (goal.at.overflow_add-c c).In-loop-t c.number_of-k.ensures)

pub overflow_mul-i : goal.overflow_mul-i
overflow_mul-i c = omega (arith, parts (goal.at.overflow_mul-i c).In-loop-t c.number_of-k.ensures)

pub overflow_add-j : goal.overflow_add-j
overflow_add-j c = omega (arith, parts (goal.at.overflow_add-j c).In-loop-t c.number_of-k.ensures)

pub slice_bounds-take_row-start : goal.slice_bounds-take_row-start
slice_bounds-take_row-start c = omega (arith, parts (goal.at.slice_bounds-take_row-start c).In-loop-t c.number_of-k.ensures)

pub slice_bounds-take_row-end : goal.slice_bounds-take_row-end
slice_bounds-take_row-end c = omega (arith, parts (goal.at.slice_bounds-take_row-end c).In-loop-t c.number_of-k.ensures)

pub slice_bounds-take_row-start-in-loop-t : goal.slice_bounds-take_row-start-in-loop-t
slice_bounds-take_row-start-in-loop-t c = omega (arith, parts (goal.at.slice_bounds-take_row-start-in-loop-t c).In-loop-t c.number_of-k.ensures, front_length c.loop-t.invariant.0)

pub slice_bounds-take_row-end-in-loop-t : goal.slice_bounds-take_row-end-in-loop-t
slice_bounds-take_row-end-in-loop-t c = omega (arith, parts (goal.at.slice_bounds-take_row-end-in-loop-t c).In-loop-t c.number_of-k.ensures, front_length c.loop-t.invariant.0)

pub slice_bounds-take_row-start-in-loop-t-2 : goal.slice_bounds-take_row-start-in-loop-t-2
slice_bounds-take_row-start-in-loop-t-2 c = omega (arith, parts (goal.at.slice_bounds-take_row-start-in-loop-t-2 c).In-loop-t c.number_of-k.ensures, front_length c.loop-t.invariant.1)

pub slice_bounds-take_row-end-in-loop-t-2 : goal.slice_bounds-take_row-end-in-loop-t-2
slice_bounds-take_row-end-in-loop-t-2 c = omega (arith, parts (goal.at.slice_bounds-take_row-end-in-loop-t-2 c).In-loop-t c.number_of-k.ensures, front_length c.loop-t.invariant.1)

pub overflow_cast-commands : goal.overflow_cast-commands
overflow_cast-commands c =
    let a = c.args in
    let room = c.requires.0 in
    let s = c.row_sizes-s.ensures in
    let h = rw c.transmitted-count.ensures at c.loop-t-test.true in
    let l = c.loop-t in
    let b =
    slot_back (format_in a.kind a.format) (sound_row _ _) a.first a.missing a.xs.now a.«data».now a.tfci.now a.commands.now l.«data» l.tfci _ _ _ _ _ room h
    c.number_of-k.ensures s.data_is s.tfci_is s.slot_is l.invariant.0 l.invariant.1 _ _ _ c.take_row-taken.ensures
    in
    omega (arith, b.command_back, command_of (format_in a.kind a.format) (sound_row _ _) a.first a.missing room.gap_ok a.xs.now room.frame_ok _ h, c.requires.1.bit _ h)

pub bounds-commands-t : goal.bounds-commands-t
bounds-commands-t c = omega (arith, parts (goal.at.bounds-commands-t c).In-loop-t c.number_of-k.ensures, front_length c.loop-t.invariant.2)

pub loop-t-preserved : goal.loop-t-preserved
loop-t-preserved c =
    let a = c.args in
    let room = c.requires.0 in
    let s = c.row_sizes-s.ensures in
    let h = rw c.transmitted-count.ensures at c.loop-t-test.true in
    let l = c.loop-t in
    let b =
    slot_back (format_in a.kind a.format) (sound_row _ _) a.first a.missing a.xs.now a.«data».now a.tfci.now a.commands.now l.«data» l.tfci _ _ _ _ _ room h
    c.number_of-k.ensures s.data_is s.tfci_is s.slot_is l.invariant.0 l.invariant.1 _ _ _ c.take_row-taken.ensures
    in (
      b.data_back,
      b.tfci_back,
      front_store 0 l.invariant.2 (omega (arith, parts (goal.at.loop-t-preserved c).In-loop-t c.number_of-k.ensures, front_length l.invariant.2)) b.command_back,
    )

pub shape_of-data : goal.shape_of-data
shape_of-data c = front_length c.loop-t.invariant.0

pub shape_of-tfci : goal.shape_of-tfci
shape_of-tfci c = front_length c.loop-t.invariant.1

pub shape_of-commands : goal.shape_of-commands
shape_of-commands c = front_length c.loop-t.invariant.2

pub returns : goal.returns
returns c =
    let room = c.requires.0 in
    let a = c.args in
    let s = c.row_sizes-s.ensures in
    let all : c.loop-t.t ≡ transmitted a.missing = omega (arith, c.transmitted-count.ensures) in
    let data-end : c.loop-t.t * c.row_sizes-s.result.«data» ≡ transmitted a.missing * data_size (format_in a.kind a.format) = rw (all, s.data_is) in
    let tfci-end : c.loop-t.t * c.row_sizes-s.result.tfci ≡ transmitted a.missing * (format_in a.kind a.format).tfci = rw (all, s.tfci_is) in
    let d = room.fields.data_ok in
    let t = room.fields.tfci_ok in
    let n = room.fields.commands_ok in
    (front_all c.loop-t.invariant.0 (omega arith), front_all c.loop-t.invariant.1 (omega arith), front_all c.loop-t.invariant.2 (omega arith))
