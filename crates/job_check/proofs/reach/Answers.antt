-- `job_check::reach` meets its contract.
use Rattle.run.proofs.Answers.{stops, goes_on}
use Rattle.job.specs.Outcome.{reach}
use Rattle.job_check.proofs.reach.Goals as goal

pub returns-in_err-within : goal.returns-in_err-within
unfolding reach
returns-in_err-within c = stops _ _ _ c.from_residual.ensures.1 c.in_err-within.ensures

pub returns : goal.returns
unfolding reach
returns c = goes_on c.in_ok-within.ensures c.check.ensures
