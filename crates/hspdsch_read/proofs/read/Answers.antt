-- `hspdsch_read::read` meets its contract: where no check refuses, antenna 1 is copied to the data.
use mathlib.Core.Path.{sym, ◌∙◌}
use Rattle.run.proofs.Answers.{handed, left, written}
use Rattle.run.proofs.Chain.{number_0}
use Rattle.run.proofs.Over.{over_whole}
use Rattle.hspdsch.proofs.Checks.{accepted}
use Rattle.hspdsch_read.proofs.read.Goals as goal

pub returns-in_err-check : goal.returns-in_err-check
returns-in_err-check c =
    record { verdict_is = handed _ _ c.from_residual.ensures.1 ∙ c.in_err-check.ensures; data_is = left _ _ _ c.in_err-check.ensures }

pub returns : goal.returns
returns c =
    let e = c.in_ok-check.ensures in
    let h = (accepted _ _ _ _ (number_0 (sym e))).head in
    record { verdict_is = e; data_is = written _ _ e (c.copy.ensures ∙ over_whole _ _ (h.first_ok ∙ sym h.data_ok)) }
