-- `antenna::second_of` meets its contract.
use mathlib.Core.Path.{◌∙◌}
use borrow.Author.Tests.{eq-eqb, ne_eqb}
use Rattle.antenna.specs.Outcome.{second_over}
use Rattle.antenna.proofs.second_of.Goals as goal

pub returns-then-first-f : goal.returns-then-first-f
unfolding second_over
returns-then-first-f c = rw (← c.format_of-f.ensures, ne_eqb _ _ c.if-first-f.true)

pub returns-then-out-f : goal.returns-then-out-f
unfolding second_over
returns-then-out-f c = rw (← c.format_of-f.ensures, eq-eqb _ _ c.if-first-f.false, ne_eqb _ _ c.if-out-f.true)

pub write-requires : goal.write-requires
write-requires c =
    let e = c.format_of-f.ensures in
    (e, rw (← e) c.if-first-f.false, rw (← e) c.if-out-f.false)

pub returns : goal.returns
unfolding second_over
returns c = c.write.ensures ∙ rw (← c.format_of-f.ensures, eq-eqb _ _ c.if-first-f.false, eq-eqb _ _ c.if-out-f.false)
