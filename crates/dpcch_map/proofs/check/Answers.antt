-- `dpcch_map::check` meets its contract.
use mathlib.Core.Path.{sym}
use Rattle.run.proofs.Answers.{stops, goes_on}
use Rattle.dpcch.specs.Outcome.{map_verdict}
use Rattle.dpcch_map.proofs.check.Goals as goal

pub returns-in_err-check_map_head : goal.returns-in_err-check_map_head
unfolding map_verdict
returns-in_err-check_map_head c = stops _ _ _ c.from_residual.ensures.1 c.in_err-check_map_head.ensures

pub returns-then-are_good : goal.returns-then-are_good
unfolding map_verdict
returns-then-are_good c = goes_on c.in_ok-check_map_head.ensures (sym (c.are_good.ensures c.if-are_good.true))

pub returns : goal.returns
unfolding map_verdict
returns c = goes_on c.in_ok-check_map_head.ensures c.check_fields.ensures
