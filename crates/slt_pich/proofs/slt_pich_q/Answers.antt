-- `slt_pich::slt_pich_q` meets its contract: the answer of `pich::q`, packed, which fits the fields.
use mathlib.Core.Path.{◌∙◌, ap}
use Rattle.pich.proofs.Exact.{packs}
use Rattle.packed.specs.Rule.{packed}
use Rattle.packed.proofs.Exact.{fitted}
use Rattle.slt_pich.proofs.slt_pich_q.Goals as goal

pub returns-in-Ok : goal.returns-in-Ok
returns-in-Ok c =
    let a = c.in-Ok.ensures in
    record { answer_is = fitted _ c.answer.ensures a.verdict_is (packs.q_narrow _ _ _) (packs.q_small _ _ _ _ a) ∙ ap (packed _) a.q_is }

pub returns-in-Err : goal.returns-in-Err
returns-in-Err c =
    let a = c.in-Err.ensures in
    record { answer_is = fitted _ c.answer-in-Err.ensures a.verdict_is (packs.q_narrow _ _ _) (packs.q_small _ _ _ _ a) ∙ ap (packed _) a.q_is }
