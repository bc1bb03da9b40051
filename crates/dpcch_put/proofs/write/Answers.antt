-- `dpcch_put::write` meets its contract: four parts of the slot's run, lent one after the other.
use mathlib.Core.Path.{◌≡◌}
use Prim.Native.Nat.{◌+◌, ◌≤◌}
use native.Mathlib.Omega.{arith}
use Rattle.dpcch.proofs.Laws.{sum, all_written}
use Rattle.dpcch_put.proofs.write.Goals as goal
use Rattle.dpcch_put.proofs.write.Goals.{Start}

sums : (c : Start) → (c.args.f.pilot + c.args.f.tfci + c.args.f.fbi + c.args.f.tpc ≡ c.args.f.slot) × (c.args.f.slot ≤ 10)
sums c = (sum _ c.requires.sound, c.requires.sound.short)

pub overflow_add-b : goal.overflow_add-b
overflow_add-b c = omega (arith, sums (goal.at.overflow_add-b c).Start)

pub overflow_add-c : goal.overflow_add-c
overflow_add-c c = omega (arith, sums (goal.at.overflow_add-c c).Start)

pub overflow_add-d : goal.overflow_add-d
overflow_add-d c = omega (arith, sums (goal.at.overflow_add-d c).Start)

pub slice_bounds-write_pilot-end : goal.slice_bounds-write_pilot-end
slice_bounds-write_pilot-end c = omega (arith, sums (goal.at.slice_bounds-write_pilot-end c).Start)

pub slice_bounds-copy-end : goal.slice_bounds-copy-end
slice_bounds-copy-end c = omega (arith, sums (goal.at.slice_bounds-copy-end c).Start)

pub slice_bounds-copy-end-2 : goal.slice_bounds-copy-end-2
slice_bounds-copy-end-2 c = omega (arith, sums (goal.at.slice_bounds-copy-end-2 c).Start)

pub slice_bounds-fill-end : goal.slice_bounds-fill-end
slice_bounds-fill-end c = omega (arith, sums (goal.at.slice_bounds-fill-end c).Start)

pub shape_of-out : goal.shape_of-out
shape_of-out c = omega (arith)

pub returns : goal.returns
returns c =
    let pre = c.requires in
    let a = c.args in
    all_written a.f pre.sound a.slot a.tpc a.tfci.now a.fbi.now pre.tfci_ok pre.fbi_ok a.out.now pre.slot_ok _ _ _ _
    c.write_pilot.ensures
    c.copy.ensures
    c.copy-2.ensures
    c.fill.ensures
