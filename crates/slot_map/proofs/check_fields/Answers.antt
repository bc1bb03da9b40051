-- `slot_map::check_fields` meets its contract: the checks are the definition's, and the first that refuses ends them.
use Rattle.run.proofs.Answers.{stops, goes_on, found_each}
use Rattle.run.proofs.Places.{above_first}
use Rattle.slot.specs.Outcome.{fields_verdict}
use Rattle.slot.proofs.Laws.{mixed_first}
use Rattle.slot_map.proofs.check_fields.Goals as goal

pub returns-in_err-require : goal.returns-in_err-require
unfolding fields_verdict
returns-in_err-require c = stops _ _ _ c.from_residual.ensures.1 c.in_err-require.ensures

pub returns-in_err-refused_at : goal.returns-in_err-refused_at
unfolding fields_verdict
returns-in_err-refused_at c =
    goes_on c.in_ok-require.ensures
    (stops _ _ _ c.from_residual-in_err-refused_at.ensures.1
    (found_each _ _ _ _ c.above.result (above_first _ _ c.above.ensures) c.in_err-refused_at.ensures))

pub returns-in_err-refused_at-2 : goal.returns-in_err-refused_at-2
unfolding fields_verdict
returns-in_err-refused_at-2 c =
    goes_on c.in_ok-require.ensures
    (goes_on (found_each _ _ _ _ c.above.result (above_first _ _ c.above.ensures) c.in_ok-refused_at.ensures)
    (stops _ _ _ c.from_residual-in_err-refused_at-2.ensures.1
    (found_each _ _ _ _ c.first_mixed.result (mixed_first _ c.first_mixed.ensures) c.in_err-refused_at-2.ensures)))

pub returns : goal.returns
unfolding fields_verdict
returns c =
    goes_on c.in_ok-require.ensures
    (goes_on (found_each _ _ _ _ c.above.result (above_first _ _ c.above.ensures) c.in_ok-refused_at.ensures)
    (goes_on (found_each _ _ _ _ c.first_mixed.result (mixed_first _ c.first_mixed.ensures) c.in_ok-refused_at-2.ensures)
    (found_each _ _ _ _ c.above-2.result (above_first _ _ c.above-2.ensures) c.refused_at-3.ensures)))
