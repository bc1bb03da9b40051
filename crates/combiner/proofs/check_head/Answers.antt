-- `combiner::check_head` meets its contract: the checks are the definition's, and the first that refuses ends them.
use Rattle.run.proofs.Answers.{stops, goes_on}
use Rattle.combiner.specs.Outcome.{combine_head}
use Rattle.combiner.proofs.check_head.Goals as goal

pub returns-in_err-require : goal.returns-in_err-require
unfolding combine_head
returns-in_err-require c = stops _ _ _ c.from_residual.ensures.1 c.in_err-require.ensures

pub returns : goal.returns
unfolding combine_head
returns c = goes_on c.in_ok-require.ensures c.require-2.ensures
