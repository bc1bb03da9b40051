-- `antenna_map::no_antenna` meets its contract: the checks are the definition's, and the first that refuses ends them.
use mathlib.Core.Path.{refl}
use Rattle.run.proofs.Answers.{stops, goes_on}
use Rattle.antenna_map.specs.Method.{no_antenna}
use Rattle.antenna_map.proofs.no_antenna.Goals as goal

pub returns-in_err-require : goal.returns-in_err-require
unfolding no_antenna
returns-in_err-require c = stops _ _ _ c.from_residual.ensures.1 c.in_err-require.ensures

pub returns-in_err-require-2 : goal.returns-in_err-require-2
unfolding no_antenna
returns-in_err-require-2 c = goes_on c.in_ok-require.ensures (stops _ _ _ c.from_residual-in_err-require-2.ensures.1 c.in_err-require-2.ensures)

pub returns : goal.returns
unfolding no_antenna
returns c = goes_on c.in_ok-require.ensures (goes_on c.in_ok-require-2.ensures refl)
