-- `lines::map_slot` meets its contract: TFCI and data are the parts of the record that the rule names.
use Prim.Native.Nat.{◌+◌, ◌≤◌}
use native.Mathlib.Omega.{arith}
use lib.ListN.{length}
use Rattle.lines.proofs.Records.{maps_slot}
use Rattle.lines.proofs.map_slot.Goals as goal

pub overflow_cast-slot : goal.overflow_cast-slot
overflow_cast-slot c = omega arith

pub overflow_cast-tpc : goal.overflow_cast-tpc
overflow_cast-tpc c = omega arith

pub overflow_add-split : goal.overflow_add-split
overflow_add-split c =
    let h : 4 + c.format_of-f.result.tfci ≤ length c.args.r.now = rw c.format_of-f.ensures (omega (arith, c.requires.sized)) in
    omega (arith, h)

pub slice_bounds-map-count : goal.slice_bounds-map-count
slice_bounds-map-count c =
    let h : 4 + c.format_of-f.result.tfci ≤ length c.args.r.now = rw c.format_of-f.ensures (omega (arith, c.requires.sized)) in
    omega (arith, h)

pub slice_bounds-map-start : goal.slice_bounds-map-start
slice_bounds-map-start c =
    let h : 4 + c.format_of-f.result.tfci ≤ length c.args.r.now = rw c.format_of-f.ensures (omega (arith, c.requires.sized)) in
    omega (arith, h)

pub slice_bounds-map-end-2 : goal.slice_bounds-map-end-2
slice_bounds-map-end-2 c =
    let h : 4 + c.format_of-f.result.tfci ≤ length c.args.r.now = rw c.format_of-f.ensures (omega (arith, c.requires.sized)) in
    omega (arith, h)

pub returns : goal.returns
returns c = maps_slot _ (rw c.format_of-f.ensures at c.map.ensures)
