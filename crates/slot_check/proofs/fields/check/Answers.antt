-- `slot_check::fields::check` meets its contract: the checks are the definition's, field by field, and the first that refuses ends them.
use mathlib.Core.Path.{refl, sym}
use native.Mathlib.Omega.{arith}
use lib.Dec.{lit<}
use Rattle.run.specs.First.{like_first}
use Rattle.run.proofs.Answers.{stops, goes_on, found_each}
use Rattle.run.proofs.Places.{above_first, unlike_first}
use Rattle.run.proofs.Stretch.{check_field}
use Rattle.dpch.specs.Formats.{widths}
use Rattle.slot.specs.Rule.{tfci_stands}
use Rattle.slot.specs.Outcome.{part_verdict, digits_verdict}
use Rattle.slot.proofs.Laws.{start_tpc, start_tfci, start_pilot, mixed_first}
use Rattle.slot_check.proofs.Laws.{whole, sums, check_pilot}
use Rattle.slot_check.proofs.fields.check.Goals as goal

pub returns-in_err-require : goal.returns-in_err-require
unfolding part_verdict
returns-in_err-require c = stops _ _ _ c.from_residual.ensures.1 c.in_err-require.ensures

pub returns-in_err-refused_at : goal.returns-in_err-refused_at
unfolding part_verdict digits_verdict
returns-in_err-refused_at c =
    goes_on c.in_ok-require.ensures
    (stops _ _ _ c.from_residual-in_err-refused_at.ensures.1
    (found_each _ _ _ _ c.above.result (above_first _ _ c.above.ensures) c.in_err-refused_at.ensures))

pub overflow_add-b : goal.overflow_add-b
overflow_add-b c = omega (arith, sums _ _ c.requires c.in_ok-require.ensures)

pub slice_bounds-tpc-end : goal.slice_bounds-tpc-end
slice_bounds-tpc-end c = omega (arith, sums _ _ c.requires c.in_ok-require.ensures)

pub placed-requires : goal.placed-requires
placed-requires c = omega (arith, sums _ _ c.requires c.in_ok-require.ensures)

pub returns-in_err-placed : goal.returns-in_err-placed
unfolding part_verdict digits_verdict
returns-in_err-placed c =
    let f = c.args.f in
    goes_on c.in_ok-require.ensures
    (goes_on (found_each _ _ _ _ c.above.result (above_first _ _ c.above.ensures) c.in_ok-refused_at.ensures)
    (stops _ _ _ c.from_residual-in_err-placed.ensures.1
    (check_field (widths f) c.args.xs.now 1 _ _ (lit< tt) (sym (start_tpc f)) refl _ _ like_first _ _ (unlike_first _ c.unlike.ensures) c.in_err-placed.ensures)))

pub overflow_add-c : goal.overflow_add-c
overflow_add-c c = omega (arith, sums _ _ c.requires c.in_ok-require.ensures)

pub slice_bounds-tfci-end : goal.slice_bounds-tfci-end
slice_bounds-tfci-end c = omega (arith, sums _ _ c.requires c.in_ok-require.ensures)

pub placed-requires-2 : goal.placed-requires-2
placed-requires-2 c = omega (arith, sums _ _ c.requires c.in_ok-require.ensures)

pub returns-in_err-placed-2 : goal.returns-in_err-placed-2
unfolding part_verdict digits_verdict
returns-in_err-placed-2 c =
    let f = c.args.f in
    let xs = c.args.xs.now in
    goes_on c.in_ok-require.ensures
    (goes_on (found_each _ _ _ _ c.above.result (above_first _ _ c.above.ensures) c.in_ok-refused_at.ensures)
    (goes_on (check_field (widths f) xs 1 _ _ (lit< tt) (sym (start_tpc f)) refl _ _ like_first _ _ (unlike_first _ c.unlike.ensures) c.in_ok-placed.ensures)
    (stops _ _ _ c.from_residual-in_err-placed-2.ensures.1
    (check_field (widths f) xs 2 _ _ (lit< tt) (sym (start_tfci f)) refl _ _ tfci_stands _ _ (mixed_first _ c.first_mixed.ensures) c.in_err-placed-2.ensures))))

pub overflow_add-d : goal.overflow_add-d
overflow_add-d c = omega (arith, sums _ _ c.requires c.in_ok-require.ensures)

pub overflow_add-pilot : goal.overflow_add-pilot
overflow_add-pilot c = omega (arith, sums _ _ c.requires c.in_ok-require.ensures)

pub slice_bounds-pilot-end : goal.slice_bounds-pilot-end
slice_bounds-pilot-end c = omega (arith, sums _ _ c.requires c.in_ok-require.ensures)

pub placed-requires-3 : goal.placed-requires-3
placed-requires-3 c = omega (arith, sums _ _ c.requires c.in_ok-require.ensures)

pub returns : goal.returns
unfolding part_verdict digits_verdict
returns c =
    let f = c.args.f in
    let xs = c.args.xs.now in
    goes_on c.in_ok-require.ensures
    (goes_on (found_each _ _ _ _ c.above.result (above_first _ _ c.above.ensures) c.in_ok-refused_at.ensures)
    (goes_on (check_field (widths f) xs 1 _ _ (lit< tt) (sym (start_tpc f)) refl _ _ like_first _ _ (unlike_first _ c.unlike.ensures) c.in_ok-placed.ensures)
    (goes_on (check_field (widths f) xs 2 _ _ (lit< tt) (sym (start_tfci f)) refl _ _ tfci_stands _ _ (mixed_first _ c.first_mixed.ensures) c.in_ok-placed-2.ensures)
    (check_pilot f xs (whole _ c.requires c.in_ok-require.ensures) c.args.slot _ _ (sym (start_pilot f)) refl _ _ c.pilot_differs.result c.pilot_differs.ensures c.placed-3.ensures))))
