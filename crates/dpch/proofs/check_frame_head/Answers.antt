-- `dpch::check_frame_head` meets its contract: the chain of checks is the definition's.
use Rattle.run.proofs.Answers.{stops, goes_on}
use Rattle.dpch.specs.Heads.{frame_head}
use Rattle.dpch.proofs.check_frame_head.Goals as goal

pub returns-in_err-check_format : goal.returns-in_err-check_format
unfolding frame_head
returns-in_err-check_format c = stops _ _ _ c.from_residual.ensures.1 c.in_err-check_format.ensures

pub returns : goal.returns
unfolding frame_head
returns c = goes_on c.in_ok-check_format.ensures c.lengths_are.ensures
