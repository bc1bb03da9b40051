-- `antenna::coded_to` meets its contract: the slot is longer than what stands before the pilot by the pilot.
use mathlib.Core.Path.{◌≡◌, sym, ap, ◌∙◌}
use Prim.Native.Nat.{◌-◌}
use native.Mathlib.Omega.{arith}
use borrow.Author.Tests.{eq-eqb, ne_eqb}
use Rattle.dpch.specs.declared.Format.{Format}
use Rattle.dpch.specs.Formats.{format_of}
use Rattle.antenna.specs.Rule.{pilot_start, coded_to}
use Rattle.antenna.proofs.Laws.{pilot_end}
use Rattle.antenna.proofs.coded_to.Goals as goal

pub returns-then-f-eq2 : goal.returns-then-f-eq2
unfolding coded_to
returns-then-f-eq2 c =
    let e = c.requires in
    rw (eq-eqb _ 2 (ap (λ (f : Format). f.pilot) (sym e) ∙ c.if-f-eq2.true)) (ap (λ (f : Format). f.slot) e)

pub overflow_sub-result : goal.overflow_sub-result
overflow_sub-result c =
    let format = c.args.format in
    rw c.requires (let p = pilot_end format in omega arith)

pub returns : goal.returns
unfolding coded_to
returns c =
    let format = c.args.format in
    let e = c.requires in
    let p = pilot_end format in
    let d : (format_of format).slot - (format_of format).pilot ≡ pilot_start format = omega arith in
    ap (λ (f : Format). f.slot - f.pilot) e ∙ rw (ne_eqb (format_of format).pilot 2 (λ z. c.if-f-eq2.false (ap (λ (f : Format). f.pilot) e ∙ z))) d
