-- `job_check::record_head` meets its contract.
use Rattle.run.proofs.Answers.{stops, goes_on}
use Rattle.job.specs.Outcome.{record_head}
use Rattle.job_check.proofs.record_head.Goals as goal

pub returns-in_err-reach : goal.returns-in_err-reach
unfolding record_head
returns-in_err-reach c = stops _ _ _ c.from_residual.ensures.1 c.in_err-reach.ensures

pub returns : goal.returns
unfolding record_head
returns c = goes_on c.in_ok-reach.ensures c.kind_head.ensures
