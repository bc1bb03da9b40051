-- `slot_map::check` meets its contract.
use Rattle.run.proofs.Answers.{stops, goes_on}
use Rattle.slot.specs.Outcome.{map_verdict}
use Rattle.slot_map.proofs.check.Goals as goal

pub returns-in_err-map_head : goal.returns-in_err-map_head
unfolding map_verdict
returns-in_err-map_head c = stops _ _ _ c.from_residual.ensures.1 c.in_err-map_head.ensures

pub returns : goal.returns
unfolding map_verdict
returns c = goes_on c.in_ok-map_head.ensures c.check_fields.ensures
