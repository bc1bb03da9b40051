-- `desk_serve::check` meets its contract: the checks are the definition's, and the first that refuses ends them.
use mathlib.Core.Path.{◌∙◌}
use Rattle.run.proofs.Answers.{stops, goes_on}
use Rattle.desk.specs.Outcome.{serve_verdict}
use Rattle.desk_serve.proofs.check.Goals as goal

pub returns-in_err-require : goal.returns-in_err-require
unfolding serve_verdict
returns-in_err-require c = stops _ _ _ c.from_residual.ensures.1 c.in_err-require.ensures

pub returns-in_err-require-2 : goal.returns-in_err-require-2
unfolding serve_verdict
returns-in_err-require-2 c =
    goes_on c.in_ok-require.ensures
    (stops _ _ _ c.from_residual-in_err-require-2.ensures.1 (c.in_err-require-2.ensures ∙ rw c.is_number.ensures))

pub returns : goal.returns
unfolding serve_verdict
returns c = goes_on c.in_ok-require.ensures (goes_on (c.in_ok-require-2.ensures ∙ rw c.is_number.ensures) c.require-3.ensures)
