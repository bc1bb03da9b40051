-- `hspdsch_map::check` meets its contract: the checks are the definition's, and the first that refuses ends them.
use mathlib.Core.Path.{◌∙◌}
use Rattle.run.proofs.Answers.{stops, goes_on, found_each}
use Rattle.run.proofs.Places.{above_first}
use Rattle.hspdsch.specs.Outcome.{map_verdict}
use Rattle.hspdsch_map.proofs.check.Goals as goal

pub returns-in_err-check_frame_head : goal.returns-in_err-check_frame_head
unfolding map_verdict
returns-in_err-check_frame_head c = stops _ _ _ c.from_residual.ensures.1 (c.in_err-check_frame_head.ensures ∙ rw c.size_of-n.ensures)

pub returns : goal.returns
unfolding map_verdict
returns c =
    goes_on (c.in_ok-check_frame_head.ensures ∙ rw c.size_of-n.ensures)
    (found_each _ _ _ _ c.above.result (above_first _ _ c.above.ensures) c.refused_at.ensures)
