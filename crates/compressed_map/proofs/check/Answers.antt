-- `compressed_map::check` meets its contract.
use mathlib.Core.Path.{sym}
use Rattle.run.proofs.Answers.{stops, goes_on}
use Rattle.run.proofs.Chain.{number_0}
use Rattle.compressed.specs.Outcome.{map_verdict}
use Rattle.compressed.proofs.Accept.{map_headed}
use Rattle.compressed_map.proofs.check.Goals as goal

pub returns-in_err-check_map_head : goal.returns-in_err-check_map_head
unfolding map_verdict
returns-in_err-check_map_head c = stops _ _ _ c.from_residual.ensures.1 c.in_err-check_map_head.ensures

pub check_fields-requires : goal.check_fields-requires
check_fields-requires c = (map_headed _ _ _ _ _ _ _ (number_0 (sym c.in_ok-check_map_head.ensures))).fields

pub returns : goal.returns
unfolding map_verdict
returns c = goes_on c.in_ok-check_map_head.ensures c.check_fields.ensures
