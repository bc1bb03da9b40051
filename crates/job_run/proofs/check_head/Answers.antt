-- `job_run::check_head` meets its contract.
use Rattle.run.proofs.Answers.{stops, goes_on}
use Rattle.job_run.proofs.check_head.Goals as goal

pub returns-in_err-require : goal.returns-in_err-require
returns-in_err-require c = stops _ _ _ c.from_residual.ensures.1 c.in_err-require.ensures

pub returns : goal.returns
returns c = goes_on c.in_ok-require.ensures c.record_head.ensures
