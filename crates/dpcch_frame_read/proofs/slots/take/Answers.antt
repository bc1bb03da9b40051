-- `dpcch_frame_read::slots::take` meets its contract: each turn takes the fields of one slot more.
use mathlib.Core.Path.{◌≡◌, sym, ◌∙◌}
use Prim.Native.Nat.{◌+◌, ◌*◌, ◌≤◌}
use native.Mathlib.Nat.{zero-mul}
use native.Mathlib.Omega.{arith}
use Rattle.run.proofs.Front.{front_none, front_length, front_store, front_all}
use Rattle.run.proofs.Parts.{part_room}
use Rattle.dpch.specs.Uplink.{dpcch_format}
use Rattle.dpcch.proofs.Laws.{sizes}
use Rattle.dpcch.proofs.Frames.{tfci_in_length, fbi_in_length, commands_in_length, command_of, slot_back}
use Rattle.dpcch_frame_read.proofs.slots.take.Goals as goal
use Rattle.dpcch_frame_read.proofs.slots.take.Goals.{In-loop-k}

rooms : (c : In-loop-k)
    → (c.loop-k.k * c.format_of-f.result.tfci + c.format_of-f.result.tfci ≤ 15 * c.format_of-f.result.tfci)
    × (c.loop-k.k * c.format_of-f.result.fbi + c.format_of-f.result.fbi ≤ 15 * c.format_of-f.result.fbi)
    × (c.loop-k.k * c.format_of-f.result.slot + c.format_of-f.result.slot ≤ 15 * c.format_of-f.result.slot)
rooms c = (part_room _ 15 _ c.loop-k-test.true, part_room _ 15 _ c.loop-k-test.true, part_room _ 15 _ c.loop-k-test.true)

pub loop-k-init : goal.loop-k-init
loop-k-init c =
    let room = c.requires.0 in
    let long = room.frame_ok in (
      rw zero-mul (front_none (tfci_in_length _ _ long ∙ sym room.fields.tfci_ok)),
      rw zero-mul (front_none (fbi_in_length _ _ long ∙ sym room.fields.fbi_ok)),
      front_none (commands_in_length _ _ long ∙ sym room.fields.commands_ok),
    )

pub overflow_mul-a : goal.overflow_mul-a
overflow_mul-a c = omega (arith, rooms (c), sizes _ _ c.format_of-f.ensures)

pub overflow_add-e : goal.overflow_add-e
overflow_add-e c = omega (arith, rooms (c), sizes _ _ c.format_of-f.ensures)

pub overflow_mul-b : goal.overflow_mul-b
overflow_mul-b c = omega (arith, rooms (c), sizes _ _ c.format_of-f.ensures)

pub overflow_add-c : goal.overflow_add-c
overflow_add-c c = omega (arith, rooms (c), sizes _ _ c.format_of-f.ensures)

pub overflow_mul-i : goal.overflow_mul-i
overflow_mul-i c = omega (arith, rooms (c), sizes _ _ c.format_of-f.ensures)

pub overflow_add-j : goal.overflow_add-j
overflow_add-j c = omega (arith, rooms (c), sizes _ _ c.format_of-f.ensures)

pub slice_bounds-take-start : goal.slice_bounds-take-start
slice_bounds-take-start c = omega (arith, rooms (c), sizes _ _ c.format_of-f.ensures, c.requires.0)

pub slice_bounds-take-end : goal.slice_bounds-take-end
slice_bounds-take-end c = omega (arith, rooms (c), sizes _ _ c.format_of-f.ensures, c.requires.0)

pub slice_bounds-take-start-in-loop-k : goal.slice_bounds-take-start-in-loop-k
slice_bounds-take-start-in-loop-k c = omega (arith, rooms (goal.at.slice_bounds-take-start-in-loop-k c).In-loop-k, sizes _ _ c.format_of-f.ensures, c.requires.0, front_length c.loop-k.invariant.0)

pub slice_bounds-take-end-in-loop-k : goal.slice_bounds-take-end-in-loop-k
slice_bounds-take-end-in-loop-k c = omega (arith, rooms (goal.at.slice_bounds-take-end-in-loop-k c).In-loop-k, sizes _ _ c.format_of-f.ensures, c.requires.0, front_length c.loop-k.invariant.0)

pub slice_bounds-take-start-in-loop-k-2 : goal.slice_bounds-take-start-in-loop-k-2
slice_bounds-take-start-in-loop-k-2 c = omega (arith, rooms (goal.at.slice_bounds-take-start-in-loop-k-2 c).In-loop-k, sizes _ _ c.format_of-f.ensures, c.requires.0, front_length c.loop-k.invariant.1)

pub slice_bounds-take-end-in-loop-k-2 : goal.slice_bounds-take-end-in-loop-k-2
slice_bounds-take-end-in-loop-k-2 c = omega (arith, rooms (goal.at.slice_bounds-take-end-in-loop-k-2 c).In-loop-k, sizes _ _ c.format_of-f.ensures, c.requires.0, front_length c.loop-k.invariant.1)

pub overflow_cast-commands : goal.overflow_cast-commands
overflow_cast-commands c =
    let a = c.args in
    let room = c.requires.0 in
    let s = sizes _ _ c.format_of-f.ensures in
    let h = c.loop-k-test.true in
    let l = c.loop-k in
    let t = c.take-tpc.ensures in
    let b =
    slot_back a.format a.xs.now a.tfci.now a.fbi.now a.commands.now l.tfci l.fbi _ _ _ _ room h s.tfci_is s.fbi_is s.slot_is l.invariant.0 l.invariant.1 _ _ _ t
    in
    omega (arith, b.command_back, command_of a.format a.xs.now room.frame_ok _ h, c.requires.1.bit _ h)

pub bounds-commands-k : goal.bounds-commands-k
bounds-commands-k c = omega (arith, front_length c.loop-k.invariant.2, c.requires.0)

pub loop-k-preserved : goal.loop-k-preserved
loop-k-preserved c =
    let a = c.args in
    let room = c.requires.0 in
    let s = sizes _ _ c.format_of-f.ensures in
    let h = c.loop-k-test.true in
    let l = c.loop-k in
    let t = c.take-tpc.ensures in
    let b =
    slot_back a.format a.xs.now a.tfci.now a.fbi.now a.commands.now l.tfci l.fbi _ _ _ _ room h s.tfci_is s.fbi_is s.slot_is l.invariant.0 l.invariant.1 _ _ _ t
    in (
      b.tfci_back,
      b.fbi_back,
      front_store 0 l.invariant.2 (omega (arith, front_length l.invariant.2, room)) b.command_back,
    )

pub shape_of-tfci : goal.shape_of-tfci
shape_of-tfci c = front_length c.loop-k.invariant.0

pub shape_of-fbi : goal.shape_of-fbi
shape_of-fbi c = front_length c.loop-k.invariant.1

pub shape_of-commands : goal.shape_of-commands
shape_of-commands c = front_length c.loop-k.invariant.2

pub returns : goal.returns
returns c =
    let room = c.requires.0 in
    let s = sizes _ _ c.format_of-f.ensures in
    let all : c.loop-k.k ≡ 15 = omega arith in
    let tfci-end : c.loop-k.k * c.format_of-f.result.tfci ≡ 15 * (dpcch_format c.args.format).tfci = rw (all, s.tfci_is) in
    let fbi-end : c.loop-k.k * c.format_of-f.result.fbi ≡ 15 * (dpcch_format c.args.format).fbi = rw (all, s.fbi_is) in
    let d = room.fields.tfci_ok in
    let t = room.fields.fbi_ok in
    let n = room.fields.commands_ok in
    (front_all c.loop-k.invariant.0 (omega arith), front_all c.loop-k.invariant.1 (omega arith), front_all c.loop-k.invariant.2 (omega arith))
