-- `compressed_map::slots::write` meets its contract: each turn writes one slot more.
use mathlib.Core.Path.{◌≡◌, sym, ◌∙◌}
use Prim.Native.Nat.{◌*◌}
use native.Mathlib.Nat.{zero-mul}
use native.Mathlib.Omega.{arith}
use Rattle.run.proofs.Frames.{lent_part, sized}
use Rattle.run.proofs.Front.{front_none, front_length, front_all}
use Rattle.run.proofs.Parts.{part_room}
use Rattle.dpch.specs.Compressed.{format_in}
use Rattle.slot.proofs.Laws.{sound_row}
use Rattle.compressed.proofs.Laws.{frame_length, slot_written, room_for}
use Rattle.compressed_map.proofs.slots.write.Goals as goal

pub loop-k-init : goal.loop-k-init
loop-k-init c = (rw zero-mul (front_none (frame_length _ (sound_row _ _) _ _ c.requires.gap_ok _ _ _ c.requires.fields.data_ok c.requires.fields.tfci_ok ∙ sym c.requires.frame_ok)))

pub overflow_mul-i : goal.overflow_mul-i
overflow_mul-i c = omega (arith, part_room c.loop-k.k 15 c.row_sizes-s.result.slot c.loop-k-test.true, c.row_sizes-s.ensures)

pub overflow_add-j : goal.overflow_add-j
overflow_add-j c = omega (arith, part_room c.loop-k.k 15 c.row_sizes-s.result.slot c.loop-k-test.true, c.row_sizes-s.ensures)

pub slice_bounds-write_slot-start : goal.slice_bounds-write_slot-start
slice_bounds-write_slot-start c = omega (arith, part_room c.loop-k.k 15 c.row_sizes-s.result.slot c.loop-k-test.true, c.row_sizes-s.ensures, c.requires.frame_ok, front_length c.loop-k.invariant)

pub slice_bounds-write_slot-end : goal.slice_bounds-write_slot-end
slice_bounds-write_slot-end c = omega (arith, part_room c.loop-k.k 15 c.row_sizes-s.result.slot c.loop-k-test.true, c.row_sizes-s.ensures, c.requires.frame_ok, front_length c.loop-k.invariant)

pub write_slot-requires : goal.write_slot-requires
write_slot-requires c = (
  room_for _ _ _ _ _ _ _ c.requires,
  c.row_sizes-s.ensures,
  c.loop-k-test.true,
  lent_part _ _ c.loop-k-test.true (sized 15 c.row_sizes-s.ensures.slot_is c.requires.frame_ok) c.loop-k.invariant ∙ c.row_sizes-s.ensures.slot_is,
)

pub loop-k-preserved : goal.loop-k-preserved
loop-k-preserved c =
    let pre = c.requires in
    slot_written _ (sound_row _ _) _ _ pre.gap_ok _ _ c.args.commands.now pre.fields.data_ok pre.fields.tfci_ok _ _ _ _ _ pre.frame_ok c.loop-k-test.true c.row_sizes-s.ensures.slot_is c.loop-k.invariant
    c.write_slot.ensures

pub shape_of-out : goal.shape_of-out
shape_of-out c = front_length c.loop-k.invariant

pub returns : goal.returns
returns c =
    let all : c.loop-k.k ≡ 15 = omega arith in
    let end : c.loop-k.k * c.row_sizes-s.result.slot ≡ 15 * (format_in c.args.kind c.args.format).slot = rw (all, c.row_sizes-s.ensures.slot_is) in
    let room = c.requires.frame_ok in
    front_all c.loop-k.invariant (omega arith)
