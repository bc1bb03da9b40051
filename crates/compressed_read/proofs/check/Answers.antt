-- `compressed_read::check` meets its contract.
use mathlib.Core.Path.{sym}
use Rattle.run.proofs.Answers.{stops, goes_on}
use Rattle.run.proofs.Chain.{number_0}
use Rattle.compressed.specs.Outcome.{read_verdict}
use Rattle.compressed.proofs.Accept.{read_headed}
use Rattle.compressed_read.proofs.check.Goals as goal

pub returns-in_err-check_read_head : goal.returns-in_err-check_read_head
unfolding read_verdict
returns-in_err-check_read_head c = stops _ _ _ c.from_residual.ensures.1 c.in_err-check_read_head.ensures

pub check_digits-requires : goal.check_digits-requires
check_digits-requires c = (read_headed _ _ _ _ _ _ _ (number_0 (sym c.in_ok-check_read_head.ensures))).frame_ok

pub returns : goal.returns
unfolding read_verdict
returns c = goes_on c.in_ok-check_read_head.ensures c.check_digits.ensures
