-- `dpcch_read::fields::take` meets its contract: TFCI and FBI, each into its own run.
use mathlib.Core.Path.{◌≡◌, refl, sym}
use Prim.Native.Nat.{◌+◌, ◌≤◌}
use native.Mathlib.Omega.{arith}
use lib.Dec.{lit<}
use lib.ListN.{length}
use Rattle.run.proofs.Stretch.{field_taken}
use Rattle.dpch.specs.Uplink.{dpcch_widths}
use Rattle.dpcch.specs.Ready.{Whole}
use Rattle.dpcch.proofs.Laws.{sum, start_tfci, start_fbi, all_room}
use Rattle.dpcch_read.proofs.fields.take.Goals as goal
use Rattle.dpcch_read.proofs.fields.take.Goals.{Start}

sums : (c : Start) → (c.args.f.pilot + c.args.f.tfci + c.args.f.fbi + c.args.f.tpc ≡ c.args.f.slot) × (c.args.f.slot ≤ 10)
sums c = (sum _ c.requires.sound, c.requires.sound.short)

pub overflow_add-b : goal.overflow_add-b
overflow_add-b c = omega (arith, sums (goal.at.overflow_add-b c).Start)

pub overflow_add-c : goal.overflow_add-c
overflow_add-c c = omega (arith, sums (goal.at.overflow_add-c c).Start)

pub slice_bounds-copy-end : goal.slice_bounds-copy-end
slice_bounds-copy-end c = omega (arith, sums (goal.at.slice_bounds-copy-end c).Start, c.requires.slot_ok)

pub slice_bounds-copy-end-2 : goal.slice_bounds-copy-end-2
slice_bounds-copy-end-2 c = omega (arith, sums (goal.at.slice_bounds-copy-end-2 c).Start, c.requires.slot_ok)

pub returns : goal.returns
returns c =
    let pre = c.requires in
    let a = c.args in
    let f = a.f in
    let xs = a.xs.now in
    let w : Whole f (length xs) = record { sound = pre.sound; slot_ok = pre.slot_ok } in (
      field_taken (dpcch_widths f) xs 1 _ _ (lit< tt) (sym (start_tfci f)) refl (all_room f xs w) _ _ pre.tfci_ok c.copy.ensures,
      field_taken (dpcch_widths f) xs 2 _ _ (lit< tt) (sym (start_fbi f)) refl (all_room f xs w) _ _ pre.fbi_ok c.copy-2.ensures,
    )
