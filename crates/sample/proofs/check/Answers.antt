-- `sample::check` meets its contract: the checks are the definition's, and the first that refuses ends them.
use mathlib.Core.Path.{◌∙◌}
use mir.Syntax.{w64}
use mir.ValLaws.{to_z-of_z}
use Rattle.run.proofs.Answers.{stops, goes_on}
use Rattle.sample.specs.Outcome.{take_verdict}
use Rattle.sample.proofs.check.Goals as goal

pub returns-in_err-require : goal.returns-in_err-require
unfolding take_verdict
returns-in_err-require c = stops _ _ _ c.from_residual.ensures.1 (c.in_err-require.ensures ∙ rw (c.is_value.ensures, to_z-of_z w64 c.args.i c.ranges.i))

pub returns-in_err-require-2 : goal.returns-in_err-require-2
unfolding take_verdict
returns-in_err-require-2 c =
    goes_on (c.in_ok-require.ensures ∙ rw (c.is_value.ensures, to_z-of_z w64 c.args.i c.ranges.i))
    (stops _ _ _ c.from_residual-in_err-require-2.ensures.1 (c.in_err-require-2.ensures ∙ rw (c.is_value-2.ensures, to_z-of_z w64 c.args.q c.ranges.q)))

pub returns-in_err-check_levels : goal.returns-in_err-check_levels
unfolding take_verdict
returns-in_err-check_levels c =
    goes_on (c.in_ok-require.ensures ∙ rw (c.is_value.ensures, to_z-of_z w64 c.args.i c.ranges.i))
    (goes_on (c.in_ok-require-2.ensures ∙ rw (c.is_value-2.ensures, to_z-of_z w64 c.args.q c.ranges.q))
    (stops _ _ _ c.from_residual-in_err-check_levels.ensures.1 c.in_err-check_levels.ensures))

pub returns : goal.returns
unfolding take_verdict
returns c =
    goes_on (c.in_ok-require.ensures ∙ rw (c.is_value.ensures, to_z-of_z w64 c.args.i c.ranges.i))
    (goes_on (c.in_ok-require-2.ensures ∙ rw (c.is_value-2.ensures, to_z-of_z w64 c.args.q c.ranges.q))
    (goes_on c.in_ok-check_levels.ensures c.require-3.ensures))
