-- `pccpch_read::check` meets its contract: the checks in their order.
use mathlib.Core.Path.{sym}
use Rattle.run.proofs.Answers.{stops, goes_on}
use Rattle.run.proofs.Chain.{number_0}
use Rattle.pccpch.specs.Outcome.{read_verdict}
use Rattle.pccpch.proofs.Checks.{headed}
use Rattle.pccpch_read.proofs.check.Goals as goal

pub returns-in_err-check_head : goal.returns-in_err-check_head
unfolding read_verdict
returns-in_err-check_head c = stops _ _ _ c.from_residual.ensures.1 c.in_err-check_head.ensures

pub check_body-requires : goal.check_body-requires
check_body-requires c =
    let h = headed _ _ _ (number_0 (sym c.in_ok-check_head.ensures)) in
    (h.first_ok, h.second_ok, rw h.first_ok at h.digits1_ok)

pub returns : goal.returns
unfolding read_verdict
returns c = goes_on c.in_ok-check_head.ensures c.check_body.ensures
