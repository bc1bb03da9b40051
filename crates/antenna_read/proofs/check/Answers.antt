-- `antenna_read::check` meets its contract: the checks in their order.
use mathlib.Core.Path.{sym}
use Rattle.run.proofs.Answers.{stops, goes_on}
use Rattle.run.proofs.Chain.{number_0}
use Rattle.antenna.specs.Outcome.{read_verdict}
use Rattle.antenna.proofs.Checks.{headed}
use Rattle.antenna_read.proofs.check.Goals as goal

pub returns-in_err-check_head : goal.returns-in_err-check_head
unfolding read_verdict
returns-in_err-check_head c = stops _ _ _ c.from_residual.ensures.1 c.in_err-check_head.ensures

pub agrees-requires : goal.agrees-requires
agrees-requires c =
    let h = headed _ _ _ _ _ _ (number_0 (sym c.in_ok-check_head.ensures)) in
    (h.first_ok, h.second_ok)

pub returns-then-agrees : goal.returns-then-agrees
unfolding read_verdict
returns-then-agrees c = goes_on c.in_ok-check_head.ensures (sym (c.agrees.ensures c.if-agrees.true))

pub check_digits-requires : goal.check_digits-requires
check_digits-requires c =
    let h = headed _ _ _ _ _ _ (number_0 (sym c.in_ok-check_head.ensures)) in
    (h.first_ok, h.second_ok)

pub returns : goal.returns
unfolding read_verdict
returns c = goes_on c.in_ok-check_head.ensures c.check_digits.ensures
