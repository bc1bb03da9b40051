-- `dpcch_frame_map::slots::write` meets its contract: each turn writes one slot more.
use mathlib.Core.Path.{◌≡◌, sym, ◌∙◌}
use Prim.Native.Nat.{◌+◌, ◌*◌, ◌≤◌}
use native.Mathlib.Nat.{zero-mul}
use native.Mathlib.Omega.{arith}
use Rattle.run.proofs.Front.{front_none, front_length, front_all}
use Rattle.run.proofs.Parts.{part_room}
use Rattle.dpch.specs.Uplink.{dpcch_format}
use Rattle.dpcch.proofs.Laws.{sizes}
use Rattle.dpcch.proofs.Frames.{frame_length, slot_written}
use Rattle.dpcch_frame_map.proofs.slots.write.Goals as goal
use Rattle.dpcch_frame_map.proofs.slots.write.Goals.{In-loop-slot}

rooms : (c : In-loop-slot)
    → (c.loop-slot.slot * c.format_of-f.result.tfci + c.format_of-f.result.tfci ≤ 15 * c.format_of-f.result.tfci)
    × (c.loop-slot.slot * c.format_of-f.result.fbi + c.format_of-f.result.fbi ≤ 15 * c.format_of-f.result.fbi)
    × (c.loop-slot.slot * c.format_of-f.result.slot + c.format_of-f.result.slot ≤ 15 * c.format_of-f.result.slot)
rooms c = (part_room _ 15 _ c.loop-slot-test.true, part_room _ 15 _ c.loop-slot-test.true, part_room _ 15 _ c.loop-slot-test.true)

pub loop-slot-init : goal.loop-slot-init
loop-slot-init c = rw zero-mul (front_none (frame_length _ _ _ _ c.requires.fields.tfci_ok c.requires.fields.fbi_ok ∙ sym c.requires.frame_ok))

pub overflow_mul-a : goal.overflow_mul-a
overflow_mul-a c = omega (arith, rooms (c), sizes _ _ c.format_of-f.ensures)

pub overflow_add-e : goal.overflow_add-e
overflow_add-e c = omega (arith, rooms (c), sizes _ _ c.format_of-f.ensures)

pub overflow_mul-b : goal.overflow_mul-b
overflow_mul-b c = omega (arith, rooms (c), sizes _ _ c.format_of-f.ensures)

pub overflow_add-c : goal.overflow_add-c
overflow_add-c c = omega (arith, rooms (c), sizes _ _ c.format_of-f.ensures)

pub overflow_mul-i : goal.overflow_mul-i
overflow_mul-i c = omega (arith, rooms (c), sizes _ _ c.format_of-f.ensures)

pub overflow_add-j : goal.overflow_add-j
overflow_add-j c = omega (arith, rooms (c), sizes _ _ c.format_of-f.ensures)

pub bounds-commands-slot : goal.bounds-commands-slot
bounds-commands-slot c = omega (arith, c.requires)

pub slice_bounds-put-start : goal.slice_bounds-put-start
slice_bounds-put-start c = omega (arith, rooms (goal.at.slice_bounds-put-start c).In-loop-slot, sizes _ _ c.format_of-f.ensures, c.requires)

pub slice_bounds-put-end : goal.slice_bounds-put-end
slice_bounds-put-end c = omega (arith, rooms (goal.at.slice_bounds-put-end c).In-loop-slot, sizes _ _ c.format_of-f.ensures, c.requires)

pub slice_bounds-put-start-in-loop-slot : goal.slice_bounds-put-start-in-loop-slot
slice_bounds-put-start-in-loop-slot c = omega (arith, rooms (goal.at.slice_bounds-put-start-in-loop-slot c).In-loop-slot, sizes _ _ c.format_of-f.ensures, c.requires)

pub slice_bounds-put-end-in-loop-slot : goal.slice_bounds-put-end-in-loop-slot
slice_bounds-put-end-in-loop-slot c = omega (arith, rooms (goal.at.slice_bounds-put-end-in-loop-slot c).In-loop-slot, sizes _ _ c.format_of-f.ensures, c.requires)

pub slice_bounds-put-start-in-loop-slot-2 : goal.slice_bounds-put-start-in-loop-slot-2
slice_bounds-put-start-in-loop-slot-2 c = omega (arith, rooms (goal.at.slice_bounds-put-start-in-loop-slot-2 c).In-loop-slot, sizes _ _ c.format_of-f.ensures, c.requires, front_length c.loop-slot.invariant)

pub slice_bounds-put-end-in-loop-slot-2 : goal.slice_bounds-put-end-in-loop-slot-2
slice_bounds-put-end-in-loop-slot-2 c = omega (arith, rooms (goal.at.slice_bounds-put-end-in-loop-slot-2 c).In-loop-slot, sizes _ _ c.format_of-f.ensures, c.requires, front_length c.loop-slot.invariant)

pub loop-slot-preserved : goal.loop-slot-preserved
loop-slot-preserved c =
    let s = sizes _ _ c.format_of-f.ensures in
    slot_written _ _ _ c.args.commands.now _ _ _ _ _ _ _ c.requires c.loop-slot-test.true s.tfci_is s.fbi_is s.slot_is c.loop-slot.invariant c.put.ensures

pub shape_of-out : goal.shape_of-out
shape_of-out c = front_length c.loop-slot.invariant

pub returns : goal.returns
returns c =
    let all : c.loop-slot.slot ≡ 15 = omega arith in
    let end : c.loop-slot.slot * c.format_of-f.result.slot ≡ 15 * (dpcch_format c.args.format).slot = rw (all, (sizes _ _ c.format_of-f.ensures).slot_is) in
    let room = c.requires.frame_ok in
    front_all c.loop-slot.invariant (omega arith)
