-- `aich::check_map` meets its contract: the checks are the definition's, and the first that refuses ends them.
use mathlib.Core.Path.{sym, ◌∙◌}
use native.Mathlib.Nat.{zero-add}
use Rattle.run.proofs.Answers.{stops, goes_on}
use Rattle.aich.proofs.Outside.{none_outside, some_outside}
use Rattle.aich.specs.Outcome.{map_verdict}
use Rattle.aich.proofs.check_map.Goals as goal

pub returns-in_err-require : goal.returns-in_err-require
unfolding map_verdict
returns-in_err-require c = stops _ _ _ c.from_residual.ensures.1 c.in_err-require.ensures

pub returns-in_err-require-2 : goal.returns-in_err-require-2
unfolding map_verdict
returns-in_err-require-2 c = goes_on c.in_ok-require.ensures (stops _ _ _ c.from_residual-in_err-require-2.ensures.1 c.in_err-require-2.ensures)

pub returns-in-None : goal.returns-in-None
unfolding map_verdict
returns-in-None c =
    goes_on c.in_ok-require.ensures
    (goes_on c.in_ok-require-2.ensures
    (none_outside 0 _ _ _ (sym c.outside.ensures ∙ c.in-None.is)))

pub returns-in-Some : goal.returns-in-Some
unfolding map_verdict
returns-in-Some c =
    goes_on c.in_ok-require.ensures
    (goes_on c.in_ok-require-2.ensures
    (some_outside 0 _ _ _ _ (sym c.outside.ensures ∙ c.in-Some.is) (c.require-in-Some.ensures ∙ rw (zero-add c.in-Some.place))))
