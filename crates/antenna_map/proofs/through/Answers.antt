-- `antenna_map::through` meets its contract: the base's checks, and antenna 2's digits made of antenna 1's.
use mathlib.Core.Path.{refl, sym, ◌∙◌}
use Rattle.run.proofs.Answers.{handed, refuses}
use Rattle.run.proofs.Chain.{leaves_done, number_0}
use Rattle.antenna.proofs.Checks.{second_refused, second_mapped}
use Rattle.antenna_map.proofs.through.Goals as goal

pub returns-in_err-map : goal.returns-in_err-map
returns-in_err-map c =
    let told = handed _ _ c.from_residual.ensures.1 in
    let is = rw c.requires at c.in_err-map.ensures.verdict_is in
    second_refused _ _ _ _ _ _ (told ∙ is) (λ z. refuses c.in_err-map.field-0.0 c.in_err-map.field-0.0.place (rw told at z))

pub returns : goal.returns
returns c =
    let m = c.in_ok-map.ensures in
    second_mapped _ _ _ _ _ _ (rw c.requires at m.verdict_is) refl (m.out_is ∙ leaves_done _ _ _ (number_0 (sym m.verdict_is))) c.second_of.ensures
