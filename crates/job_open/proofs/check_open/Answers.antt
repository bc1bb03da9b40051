-- `job_open::check_open` meets its contract.
use Rattle.run.proofs.Answers.{stops, goes_on}
use Rattle.job.specs.Outcome.{open_verdict}
use Rattle.job_open.proofs.check_open.Goals as goal

pub returns-in_err-require : goal.returns-in_err-require
unfolding open_verdict
returns-in_err-require c = stops _ _ _ c.from_residual.ensures.1 c.in_err-require.ensures

pub returns : goal.returns
unfolding open_verdict
returns c = goes_on c.in_ok-require.ensures c.check_head.ensures
