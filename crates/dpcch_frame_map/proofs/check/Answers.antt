-- `dpcch_frame_map::check` meets its contract.
use mathlib.Core.Path.{sym}
use Rattle.run.proofs.Answers.{stops, goes_on}
use Rattle.run.proofs.Chain.{number_0}
use Rattle.dpcch.specs.Outcome.{frame_map_verdict}
use Rattle.dpcch.proofs.Accept.{frame_map_headed}
use Rattle.dpcch.proofs.Frames.{bits_good}
use Rattle.dpcch_frame_map.proofs.check.Goals as goal

pub returns-in_err-check_head : goal.returns-in_err-check_head
unfolding frame_map_verdict
returns-in_err-check_head c = stops _ _ _ c.from_residual.ensures.1 c.in_err-check_head.ensures

pub returns-then-are_good : goal.returns-then-are_good
unfolding frame_map_verdict
returns-then-are_good c =
    let e = c.in_ok-check_head.ensures in
    goes_on e (sym (bits_good _ _ _ _ (frame_map_headed _ _ _ _ _ (number_0 (sym e))).fields (c.are_good.ensures c.if-are_good.true)))

pub check_fields-requires : goal.check_fields-requires
check_fields-requires c = (frame_map_headed _ _ _ _ _ (number_0 (sym c.in_ok-check_head.ensures))).fields

pub returns : goal.returns
unfolding frame_map_verdict
returns c = goes_on c.in_ok-check_head.ensures c.check_fields.ensures
