-- `pccpch_read::read_checked` meets its contract.
use mathlib.Core.Path.{sym, ◌∙◌}
use Rattle.run.proofs.Answers.{handed, left, written}
use Rattle.run.proofs.Chain.{number_0}
use Rattle.pccpch.proofs.Checks.{accepted}
use Rattle.pccpch_read.proofs.read_checked.Goals as goal

pub returns-in_err-check : goal.returns-in_err-check
returns-in_err-check c =
    record { verdict_is = handed _ _ c.from_residual.ensures.1 ∙ c.in_err-check.ensures; digits_is = left _ _ _ c.in_err-check.ensures }

pub take_data-requires : goal.take_data-requires
take_data-requires c =
    let h = (accepted _ _ _ (number_0 (sym c.in_ok-check.ensures))).head in
    (h.first_ok, h.data_ok)

pub returns : goal.returns
returns c = record { verdict_is = c.in_ok-check.ensures; digits_is = written _ _ c.in_ok-check.ensures c.take_data.ensures }
