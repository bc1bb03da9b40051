-- `wake::frame` meets its contract: what the function on plain numbers answers is stored, and on a refusal nothing is.
use Rattle.wake.proofs.Laws.{frame_stops}
use Rattle.wake.proofs.frame.Goals as goal

pub returns-in_err-tally : goal.returns-in_err-tally
returns-in_err-tally c = frame_stops _ _ _ _ _ _ c.from_residual.ensures.1 c.in_err-tally.ensures.0

pub returns : goal.returns
returns c = let p = c.in_ok-tally.ensures in record { verdict_is = p.0; tally_is = p.1 }
