-- `dpcch_map::check_fields` meets its contract: the chain of checks is the definition's.
use Rattle.run.proofs.Answers.{stops, goes_on, found_each}
use Rattle.run.proofs.Places.{above_first}
use Rattle.dpcch.specs.Outcome.{fields_verdict}
use Rattle.dpcch_map.proofs.check_fields.Goals as goal

pub returns-in_err-require : goal.returns-in_err-require
unfolding fields_verdict
returns-in_err-require c = stops _ _ _ c.from_residual.ensures.1 c.in_err-require.ensures

pub returns-in_err-refused_at : goal.returns-in_err-refused_at
unfolding fields_verdict
returns-in_err-refused_at c =
    goes_on c.in_ok-require.ensures
    (stops _ _ _ c.from_residual-in_err-refused_at.ensures.1
    (found_each _ _ _ _ c.above.result (above_first _ _ c.above.ensures) c.in_err-refused_at.ensures))

pub returns : goal.returns
unfolding fields_verdict
returns c =
    goes_on c.in_ok-require.ensures
    (goes_on (found_each _ _ _ _ c.above.result (above_first _ _ c.above.ensures) c.in_ok-refused_at.ensures)
    (found_each _ _ _ _ c.above-2.result (above_first _ _ c.above-2.ensures) c.refused_at-2.ensures))
