-- `dpcch_frame_read::check` meets its contract.
use mathlib.Core.Path.{sym}
use Rattle.run.proofs.Answers.{stops, goes_on}
use Rattle.run.proofs.Chain.{number_0}
use Rattle.dpcch.specs.Outcome.{frame_read_verdict}
use Rattle.dpcch.proofs.Accept.{frame_read_headed}
use Rattle.dpcch_frame_read.proofs.check.Goals as goal

pub returns-in_err-check_head : goal.returns-in_err-check_head
unfolding frame_read_verdict
returns-in_err-check_head c = stops _ _ _ c.from_residual.ensures.1 c.in_err-check_head.ensures

pub all_fit-requires : goal.all_fit-requires
all_fit-requires c = (frame_read_headed _ _ _ _ _ (number_0 (sym c.in_ok-check_head.ensures))).frame_ok

pub returns-then-all_fit : goal.returns-then-all_fit
unfolding frame_read_verdict
returns-then-all_fit c = goes_on c.in_ok-check_head.ensures (sym (c.all_fit.ensures c.if-all_fit.true))

pub check_digits-requires : goal.check_digits-requires
check_digits-requires c = (frame_read_headed _ _ _ _ _ (number_0 (sym c.in_ok-check_head.ensures))).frame_ok

pub returns : goal.returns
unfolding frame_read_verdict
returns c = goes_on c.in_ok-check_head.ensures c.check_digits.ensures
