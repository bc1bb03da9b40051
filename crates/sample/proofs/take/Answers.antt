-- `sample::take` meets its contract: the part of each value where no check refuses.
use mathlib.Core.Path.{◌≡◌, sym, ap, ◌∙◌}
use mir.Syntax.{w64}
use mir.ValLaws.{to_z-of_z}
use Rattle.run.specs.Verdicts.{done}
use Rattle.run.proofs.Answers.{written}
use Rattle.run.proofs.Chain.{number_0}
use Rattle.sample.specs.Rule.{is_value}
use Rattle.sample.specs.Outcome.{take_verdict}
use Rattle.sample.proofs.Laws.{taken, refused_take}
use Rattle.sample.proofs.take.Goals as goal
use Rattle.sample.proofs.take.Goals.{In_ok-check}

-- the checks are of the values themselves, which the machine reads back from their bits
told : (c : In_ok-check) → done ≡ take_verdict c.args.i c.args.q c.args.setting c.args.antenna
told c = rw (to_z-of_z w64 c.args.i c.ranges.i, to_z-of_z w64 c.args.q c.ranges.q) at c.in_ok-check.ensures

pub returns-in_err-check : goal.returns-in_err-check
returns-in_err-check c =
    refused_take _ _ c.from_residual.ensures.1 (rw (to_z-of_z w64 c.args.i c.ranges.i, to_z-of_z w64 c.args.q c.ranges.q) at c.in_err-check.ensures)

pub part-requires : goal.part-requires
part-requires c =
    ap is_value (to_z-of_z w64 c.args.i c.ranges.i) ∙ (taken _ _ _ _ (number_0 (sym (told (goal.at.part-requires c).In_ok-check)))).i_ok

pub part-requires-2 : goal.part-requires-2
part-requires-2 c =
    ap is_value (to_z-of_z w64 c.args.q c.ranges.q) ∙ (taken _ _ _ _ (number_0 (sym (told (goal.at.part-requires-2 c).In_ok-check)))).q_ok

pub returns : goal.returns
returns c =
    let e = told (goal.at.returns c).In_ok-check in
    record {
      verdict_is = e;
      inphase_is = written _ _ e (rw (to_z-of_z w64 c.args.i c.ranges.i) at c.part.ensures);
      quadrature_is = written _ _ e (rw (to_z-of_z w64 c.args.q c.ranges.q) at c.part-2.ensures);
    }
