-- `slot_put::write` meets its contract: five parts of the slot's run, lent one after the other.
use native.Mathlib.Omega.{arith}
use Rattle.run.proofs.Lent.{rest_of}
use Rattle.slot.proofs.Laws.{all_written}
use Rattle.slot.proofs.Ends.{whole, tpc_counts, tfci_counts, data2_counts, pilot_counts}
use Rattle.slot_put.proofs.write.Goals as goal

pub overflow_add-b : goal.overflow_add-b
overflow_add-b c = tpc_counts _ c.requires.sound

pub overflow_add-c : goal.overflow_add-c
overflow_add-c c = tfci_counts _ c.requires.sound

pub overflow_add-d : goal.overflow_add-d
overflow_add-d c = data2_counts _ c.requires.sound

pub overflow_add-e : goal.overflow_add-e
overflow_add-e c = pilot_counts _ c.requires.sound

pub slice_bounds-copy-end : goal.slice_bounds-copy-end
slice_bounds-copy-end c = omega (arith, whole c.args.f c.requires.sound, c.requires.slot_ok)

pub slice_bounds-fill-end : goal.slice_bounds-fill-end
slice_bounds-fill-end c = omega (arith, whole c.args.f c.requires.sound, c.requires.slot_ok)

pub slice_bounds-copy-end-2 : goal.slice_bounds-copy-end-2
slice_bounds-copy-end-2 c = omega (arith, whole c.args.f c.requires.sound, c.requires.slot_ok)

pub slice_bounds-copy-end-3 : goal.slice_bounds-copy-end-3
slice_bounds-copy-end-3 c = omega (arith, whole c.args.f c.requires.sound, c.requires.slot_ok)

pub slice_bounds-write_pilot-end : goal.slice_bounds-write_pilot-end
slice_bounds-write_pilot-end c = omega (arith, whole c.args.f c.requires.sound, c.requires.slot_ok)

pub shape_of-out : goal.shape_of-out
shape_of-out c = omega arith

pub returns : goal.returns
returns c =
    let pre = c.requires in
    let a = c.args in
    all_written a.f pre.sound a.slot a.tpc a.«data».now a.tfci.now pre.data_ok pre.tfci_ok a.out.now pre.slot_ok _ _ _ _ _ _
    (rest_of a.f.data1 a.«data».now)
    c.copy.ensures
    c.fill.ensures
    c.copy-2.ensures
    c.copy-3.ensures
    c.write_pilot.ensures
