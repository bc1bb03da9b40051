-- `wake::check_head` meets its contract: the checks are the definition's, and the first that refuses ends them.
use mathlib.Core.Path.{◌∙◌}
use Rattle.run.proofs.Answers.{stops, goes_on}
use Rattle.wake.specs.Outcome.{frame_head}
use Rattle.wake.proofs.check_head.Goals as goal

pub returns-in_err-require : goal.returns-in_err-require
unfolding frame_head
returns-in_err-require c = stops _ _ _ c.from_residual.ensures.1 c.in_err-require.ensures

pub returns : goal.returns
unfolding frame_head
returns c = goes_on c.in_ok-require.ensures (c.require-2.ensures ∙ rw c.has_room.ensures)
