-- `job_open::byte_is` meets its contract.
use Rattle.run.proofs.Answers.{stops, goes_on}
use Rattle.job.specs.Outcome.{byte_is}
use Rattle.job_open.proofs.byte_is.Goals as goal

pub returns-in_err-present : goal.returns-in_err-present
unfolding byte_is
returns-in_err-present c = stops _ _ _ c.from_residual.ensures.1 c.in_err-present.ensures

pub returns : goal.returns
unfolding byte_is
returns c = goes_on c.in_ok-present.ensures c.check.ensures
