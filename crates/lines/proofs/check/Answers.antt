-- `lines::check` meets its contract.
use mathlib.Core.Path.{◌∙◌}
use Rattle.run.proofs.Answers.{stops, goes_on}
use Rattle.lines.proofs.check.Goals as goal

pub returns-in_err-require : goal.returns-in_err-require
returns-in_err-require c = stops _ _ _ c.from_residual.ensures.1 (c.in_err-require.ensures ∙ rw c.is_whole.ensures)

pub returns : goal.returns
returns c = goes_on (c.in_ok-require.ensures ∙ rw c.is_whole.ensures) c.require-2.ensures
