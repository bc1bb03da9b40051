-- `sample::check_levels` meets its contract: each arm is the definition's line for its case.
use mathlib.Core.Path.{◌∙◌}
use Rattle.run.proofs.Answers.{stops, goes_on}
use Rattle.sample.specs.Outcome.{levels_verdict}
use Rattle.sample.proofs.check_levels.Goals as goal

pub returns-in-Off : goal.returns-in-Off
unfolding levels_verdict
returns-in-Off c = rw c.in-Off.is

pub returns-in-Shared : goal.returns-in-Shared
unfolding levels_verdict
returns-in-Shared c = rw (c.in-Shared.is, ← c.is_level.ensures) c.require.ensures

pub returns-in_err-require-in-Each : goal.returns-in_err-require-in-Each
unfolding levels_verdict
returns-in_err-require-in-Each c =
    rw c.in-Each.is (stops _ _ _ c.from_residual.ensures.1 (c.in_err-require-in-Each.ensures ∙ rw c.is_level-in-Each.ensures))

pub returns-in_ok-require-in-Each : goal.returns-in_ok-require-in-Each
unfolding levels_verdict
returns-in_ok-require-in-Each c =
    rw c.in-Each.is
    (goes_on (c.in_ok-require-in-Each.ensures ∙ rw c.is_level-in-Each.ensures) (c.require-in-Each-2.ensures ∙ rw c.is_level-in-Each-2.ensures))
