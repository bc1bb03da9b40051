-- `pccpch::check` meets its contract: the checks are the definition's, and the first that refuses ends them.
use Rattle.run.proofs.Answers.{stops, goes_on, found_each}
use Rattle.run.proofs.Places.{above_first}
use Rattle.pccpch.specs.Outcome.{map_verdict}
use Rattle.pccpch.proofs.check.Goals as goal

pub returns-in_err-require : goal.returns-in_err-require
unfolding map_verdict
returns-in_err-require c = stops _ _ _ c.from_residual.ensures.1 c.in_err-require.ensures

pub returns-in_err-require-2 : goal.returns-in_err-require-2
unfolding map_verdict
returns-in_err-require-2 c = goes_on c.in_ok-require.ensures (stops _ _ _ c.from_residual-in_err-require-2.ensures.1 c.in_err-require-2.ensures)

pub returns-in_err-require-3 : goal.returns-in_err-require-3
unfolding map_verdict
returns-in_err-require-3 c =
    goes_on c.in_ok-require.ensures
    (goes_on c.in_ok-require-2.ensures
    (stops _ _ _ c.from_residual-in_err-require-3.ensures.1 c.in_err-require-3.ensures))

pub returns : goal.returns
unfolding map_verdict
returns c =
    goes_on c.in_ok-require.ensures
    (goes_on c.in_ok-require-2.ensures
    (goes_on c.in_ok-require-3.ensures
    (found_each _ _ _ _ c.above.result (above_first _ _ c.above.ensures) c.refused_at.ensures)))
