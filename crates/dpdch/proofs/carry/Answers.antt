-- `dpdch::carry` meets its contract.
use mathlib.Core.Path.{sym, ◌∙◌}
use Rattle.run.proofs.Answers.{handed, left, written}
use Rattle.run.proofs.Chain.{number_0}
use Rattle.run.proofs.Over.{over_whole}
use Rattle.dpdch.proofs.Laws.{taken}
use Rattle.dpdch.proofs.carry.Goals as goal

pub returns-in_err-check : goal.returns-in_err-check
returns-in_err-check c = record { verdict_is = handed _ _ c.from_residual.ensures.1 ∙ c.in_err-check.ensures; out_is = left _ _ _ c.in_err-check.ensures }

pub returns : goal.returns
returns c =
    let t = taken _ _ _ _ (number_0 (sym c.in_ok-check.ensures)) in
    record { verdict_is = c.in_ok-check.ensures; out_is = written _ _ c.in_ok-check.ensures (c.copy.ensures ∙ over_whole _ _ (t.long ∙ sym t.out_ok)) }
