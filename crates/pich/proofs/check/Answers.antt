-- `pich::check` meets its contract: the checks are the definition's, and the first that refuses ends them.
use mathlib.Core.Path.{◌∙◌}
use Rattle.run.proofs.Answers.{stops, goes_on}
use Rattle.pich.specs.Outcome.{q_verdict}
use Rattle.pich.proofs.check.Goals as goal

pub returns-in_err-require : goal.returns-in_err-require
unfolding q_verdict
returns-in_err-require c = stops _ _ _ c.from_residual.ensures.1 (c.in_err-require.ensures ∙ rw c.is_np.ensures)

pub returns-in_err-require-2 : goal.returns-in_err-require-2
unfolding q_verdict
returns-in_err-require-2 c =
    goes_on (c.in_ok-require.ensures ∙ rw c.is_np.ensures)
    (stops _ _ _ c.from_residual-in_err-require-2.ensures.1 c.in_err-require-2.ensures)

pub returns : goal.returns
unfolding q_verdict
returns c =
    goes_on (c.in_ok-require.ensures ∙ rw c.is_np.ensures)
    (goes_on c.in_ok-require-2.ensures c.require-3.ensures)
