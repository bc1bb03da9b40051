-- `sttd_values::check` meets its contract: the checks are the definition's, and the first that refuses ends them.
use lib.IntN.{pos, negsuc}
use Rattle.run.proofs.Answers.{stops, goes_on, each_none, each_some}
use Rattle.run.proofs.Places.{outside_first, found_below}
use Rattle.sttd.specs.Outcome.{values_verdict}
use Rattle.sttd_values.proofs.check.Goals as goal

pub returns-in_err-require : goal.returns-in_err-require
unfolding values_verdict
returns-in_err-require c = stops _ _ _ c.from_residual.ensures.1 c.in_err-require.ensures

pub returns-in_err-require-2 : goal.returns-in_err-require-2
unfolding values_verdict
returns-in_err-require-2 c = goes_on c.in_ok-require.ensures (stops _ _ _ c.from_residual-in_err-require-2.ensures.1 c.in_err-require-2.ensures)

pub returns-in-None : goal.returns-in-None
unfolding values_verdict
returns-in-None c =
    let all = rw c.in-None.is at (outside_first (negsuc 15) (pos 16) c.args.input.now c.outside.ensures) in
    goes_on c.in_ok-require.ensures (goes_on c.in_ok-require-2.ensures (each_none 0 _ _ _ all))

pub returns-in-Some : goal.returns-in-Some
unfolding values_verdict
returns-in-Some c =
    let first = rw c.in-Some.is at (outside_first (negsuc 15) (pos 16) c.args.input.now c.outside.ensures) in
    goes_on c.in_ok-require.ensures
    (goes_on c.in_ok-require-2.ensures (each_some _ _ _ first (found_below _ c.args.input.now _ c.outside.ensures c.in-Some.is)))
