-- `pccpch_read::check_head` meets its contract: the checks are the definition's, and the first that refuses ends them. Antenna 1's places count from 0, antenna 2's from 300.
use Rattle.run.proofs.Answers.{stops, goes_on, found_each}
use Rattle.run.proofs.Places.{above_first}
use Rattle.pccpch.specs.Outcome.{read_head}
use Rattle.pccpch_read.proofs.check_head.Goals as goal

pub returns-in_err-require : goal.returns-in_err-require
unfolding read_head
returns-in_err-require c = stops _ _ _ c.from_residual.ensures.1 c.in_err-require.ensures

pub returns-in_err-require-2 : goal.returns-in_err-require-2
unfolding read_head
returns-in_err-require-2 c = goes_on c.in_ok-require.ensures (stops _ _ _ c.from_residual-in_err-require-2.ensures.1 c.in_err-require-2.ensures)

pub returns-in_err-require-3 : goal.returns-in_err-require-3
unfolding read_head
returns-in_err-require-3 c =
    goes_on c.in_ok-require.ensures
    (goes_on c.in_ok-require-2.ensures
    (stops _ _ _ c.from_residual-in_err-require-3.ensures.1 c.in_err-require-3.ensures))

pub returns-in_err-refused_at : goal.returns-in_err-refused_at
unfolding read_head
returns-in_err-refused_at c =
    goes_on c.in_ok-require.ensures
    (goes_on c.in_ok-require-2.ensures
    (goes_on c.in_ok-require-3.ensures
    (stops _ _ _ c.from_residual-in_err-refused_at.ensures.1
    (found_each 0 4 _ _ c.above.result (above_first 2 c.args.antenna1.now c.above.ensures) c.in_err-refused_at.ensures))))

pub returns : goal.returns
unfolding read_head
returns c =
    goes_on c.in_ok-require.ensures
    (goes_on c.in_ok-require-2.ensures
    (goes_on c.in_ok-require-3.ensures
    (goes_on (found_each 0 4 _ _ c.above.result (above_first 2 c.args.antenna1.now c.above.ensures) c.in_ok-refused_at.ensures)
    (found_each _ _ _ _ c.above-2.result (above_first 2 c.args.antenna2.now c.above-2.ensures) c.refused_at-2.ensures))))
