-- `dpcch_check::fields::check` meets its contract: the chain of checks is the definition's, field by field.
use mathlib.Core.Path.{◌≡◌}
use Prim.Native.Nat.{◌+◌, ◌≤◌}
use native.Mathlib.Omega.{arith}
use Rattle.run.proofs.Answers.{stops, goes_on, found_each}
use Rattle.run.proofs.Places.{above_first}
use Rattle.dpcch.specs.Outcome.{digits_verdict}
use Rattle.dpcch.proofs.Laws.{sum}
use Rattle.dpcch_check.proofs.Laws.{check_tpc, check_pilot}
use Rattle.dpcch_check.proofs.fields.check.Goals as goal
use Rattle.dpcch_check.proofs.fields.check.Goals.{Start}

sums : (c : Start) → (c.args.f.pilot + c.args.f.tfci + c.args.f.fbi + c.args.f.tpc ≡ c.args.f.slot) × (c.args.f.slot ≤ 10)
sums c = (sum _ c.requires.sound, c.requires.sound.short)

pub overflow_add-b : goal.overflow_add-b
overflow_add-b c = omega (arith, sums (goal.at.overflow_add-b c).Start)

pub overflow_add-b-2 : goal.overflow_add-b-2
overflow_add-b-2 c = omega (arith, sums (goal.at.overflow_add-b-2 c).Start)

pub overflow_add-c : goal.overflow_add-c
overflow_add-c c = omega (arith, sums (goal.at.overflow_add-c c).Start)

pub slice_bounds-pilot-end : goal.slice_bounds-pilot-end
slice_bounds-pilot-end c = omega (arith, sums (goal.at.slice_bounds-pilot-end c).Start)

pub slice_bounds-tpc-end : goal.slice_bounds-tpc-end
slice_bounds-tpc-end c = omega (arith, sums (goal.at.slice_bounds-tpc-end c).Start)

pub overflow_cast-b : goal.overflow_cast-b
overflow_cast-b c = omega (arith, sums (goal.at.overflow_cast-b c).Start)

pub overflow_add-first : goal.overflow_add-first
overflow_add-first c = omega (arith, sums (goal.at.overflow_add-first c).Start)

pub returns-in_err-refused_at : goal.returns-in_err-refused_at
unfolding digits_verdict
returns-in_err-refused_at c =
    stops _ _ _ c.from_residual.ensures.1 (found_each _ _ _ _ c.above.result (above_first _ _ c.above.ensures) c.in_err-refused_at.ensures)

pub returns-in_err-refused_at-2 : goal.returns-in_err-refused_at-2
unfolding digits_verdict
returns-in_err-refused_at-2 c =
    goes_on (found_each _ _ _ _ c.above.result (above_first _ _ c.above.ensures) c.in_ok-refused_at.ensures)
    (stops _ _ _ c.from_residual-in_err-refused_at-2.ensures.1 (check_tpc c.args.f c.args.xs.now _ _ c.unlike.result _ c.unlike.ensures c.in_err-refused_at-2.ensures))

pub returns : goal.returns
unfolding digits_verdict
returns c =
    goes_on (found_each _ _ _ _ c.above.result (above_first _ _ c.above.ensures) c.in_ok-refused_at.ensures)
    (goes_on (check_tpc c.args.f c.args.xs.now _ _ c.unlike.result _ c.unlike.ensures c.in_ok-refused_at-2.ensures)
    (check_pilot c.args.f c.args.xs.now c.requires c.args.slot _ _ c.pilot_differs.result _ c.pilot_differs.ensures c.refused_at-3.ensures))
