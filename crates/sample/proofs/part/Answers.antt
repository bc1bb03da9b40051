-- `sample::part` meets its contract: each arm is the definition's line for its case.
use borrow.Author.Tests.{eq-eqb, ne_eqb}
use lib.Ieee.{of_bits}
use mir.Syntax.{w64}
use mir.ValLaws.{to_z-of_z}
use Rattle.sample.specs.Rule.{part}
use Rattle.sample.proofs.part.Goals as goal

pub returns-in-Off : goal.returns-in-Off
unfolding part of_bits
returns-in-Off c = rw c.in-Off.is

pub returns-in-Shared : goal.returns-in-Shared
unfolding part
returns-in-Shared c =
    let s = c in
    rw (c.in-Shared.is, c.times.ensures, to_z-of_z w64 s.args.v s.ranges.v)

pub returns-then-antenna-eq0 : goal.returns-then-antenna-eq0
unfolding part
returns-then-antenna-eq0 c =
    let s = c in
    rw (c.in-Each.is, c.times-then-antenna-eq0.ensures, to_z-of_z w64 s.args.v s.ranges.v, eq-eqb _ _ c.if-antenna-eq0.true)

pub returns-else-antenna-eq0 : goal.returns-else-antenna-eq0
unfolding part
returns-else-antenna-eq0 c =
    let s = c in
    rw (c.in-Each.is, c.times-else-antenna-eq0.ensures, to_z-of_z w64 s.args.v s.ranges.v, ne_eqb _ _ c.if-antenna-eq0.false)
