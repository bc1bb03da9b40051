-- `hspdsch_map::map` meets its contract: where no check refuses, antenna 2's digits, and the data copied to antenna 1.
use mathlib.Core.Path.{refl, sym, ◌∙◌}
use Rattle.run.proofs.Answers.{handed, left, written}
use Rattle.run.proofs.Chain.{number_0}
use Rattle.run.proofs.Over.{over_whole}
use Rattle.hspdsch.proofs.Checks.{taken, taken_coded}
use Rattle.hspdsch_map.proofs.map.Goals as goal

pub returns-in_err-check : goal.returns-in_err-check
returns-in_err-check c =
    let e = c.in_err-check.ensures in
    record { verdict_is = handed _ _ c.from_residual.ensures.1 ∙ e; antenna1_is = left _ _ _ e; antenna2_is = left _ _ _ e }

pub returns : goal.returns
returns c =
    let e = c.in_ok-check.ensures in
    let t = taken _ _ _ _ (number_0 (sym e)) in
    record {
      verdict_is = e;
      antenna1_is = written _ _ e (c.copy.ensures ∙ over_whole _ _ (t.long ∙ sym t.first_ok));
      antenna2_is = written _ _ e (taken_coded _ _ _ _ t _ refl c.encode.ensures);
    }
