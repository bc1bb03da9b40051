-- `slot_fits::fields_fit` meets its contract: no check of the definition's chain refuses, field by field.
use mathlib.Core.Path.{refl, sym}
use mathlib.Core.List.{List}
use Prim.Native.Nat.{ℕ}
use lib.Dec.{lit<}
use Rattle.run.specs.First.{like_first, agree}
use Rattle.run.proofs.Chain.{both_fit, each_fits}
use Rattle.dpch.specs.Compressed.{pilot_for}
use Rattle.slot.specs.Rule.{tfci_stands}
use Rattle.slot.specs.Outcome.{digits_verdict}
use Rattle.slot.proofs.Laws.{start_tpc, start_tfci, start_pilot}
use Rattle.slot.proofs.Ends.{tpc_counts, tfci_counts, data2_counts, pilot_counts, tpc_ends, tfci_ends, pilot_ends}
use Rattle.slot_fits.proofs.Laws.{field_told, lent_long, pilot_lent}
use Rattle.slot_fits.proofs.fields_fit.Goals as goal

pub overflow_add-b : goal.overflow_add-b
overflow_add-b c = tpc_counts _ c.requires.0.sound

pub overflow_add-c : goal.overflow_add-c
overflow_add-c c = tfci_counts _ c.requires.0.sound

pub overflow_add-d : goal.overflow_add-d
overflow_add-d c = data2_counts _ c.requires.0.sound

pub overflow_add-e : goal.overflow_add-e
overflow_add-e c = pilot_counts _ c.requires.0.sound

pub slice_bounds-is_pilot-end : goal.slice_bounds-is_pilot-end
slice_bounds-is_pilot-end c = pilot_ends _ c.requires.0.sound c.requires.0.slot_ok

pub is_pilot-requires : goal.is_pilot-requires
is_pilot-requires c =
    let a = c.args in
    rw (lent_long a.f a.xs.now 4 _ _ (lit< tt) (sym (start_pilot a.f)) refl c.requires.0) c.requires.1

pub slice_bounds-is_tfci-end : goal.slice_bounds-is_tfci-end
slice_bounds-is_tfci-end c = tfci_ends _ c.requires.0.sound c.requires.0.slot_ok

pub slice_bounds-is_command-end : goal.slice_bounds-is_command-end
slice_bounds-is_command-end c = tpc_ends _ c.requires.0.sound c.requires.0.slot_ok

pub returns : goal.returns
unfolding digits_verdict
returns c =
    let a = c.args in
    let f = a.f in
    let xs = a.xs.now in
    let w = c.requires.0 in
    both_fit _ _ refl (each_fits _ _ _ _ (lit< tt) c.are_digits.ensures)
    (both_fit _ _ refl (field_told f xs 1 _ _ (lit< tt) (sym (start_tpc f)) refl _ _ like_first (lit< tt) c.is_command.ensures)
    (both_fit _ _ refl (field_told f xs 2 _ _ (lit< tt) (sym (start_tfci f)) refl _ _ tfci_stands (lit< tt) c.is_tfci.ensures)
    (field_told f xs 4 _ _ (lit< tt) (sym (start_pilot f)) refl _ _ (λ (s : List ℕ). agree s (pilot_for f.kind f.pilot a.slot)) (lit< tt)
    (pilot_lent f xs 4 _ _ (lit< tt) (sym (start_pilot f)) refl w a.slot c.is_pilot.ensures))))
