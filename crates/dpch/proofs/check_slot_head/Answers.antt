-- `dpch::check_slot_head` meets its contract: the chain of checks is the definition's.
use Rattle.run.proofs.Answers.{stops, goes_on}
use Rattle.dpch.specs.Heads.{slot_head}
use Rattle.dpch.proofs.check_slot_head.Goals as goal

pub returns-in_err-check_format : goal.returns-in_err-check_format
unfolding slot_head
returns-in_err-check_format c = stops _ _ _ c.from_residual.ensures.1 c.in_err-check_format.ensures

pub returns-in_err-require : goal.returns-in_err-require
unfolding slot_head
returns-in_err-require c = goes_on c.in_ok-check_format.ensures (stops _ _ _ c.from_residual-in_err-require.ensures.1 c.in_err-require.ensures)

pub returns : goal.returns
unfolding slot_head
returns c = goes_on c.in_ok-check_format.ensures (goes_on c.in_ok-require.ensures c.lengths_are.ensures)
