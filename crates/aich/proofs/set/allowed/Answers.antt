-- `aich::set::allowed` meets its contract: the indicator is compared with 0 by its bits.
use borrow.Author.Tests.{eq-eqb, ne_eqb}
use borrow.Author.Rules.{rules}
use Rattle.whole.proofs.Equal.{bits_eq_z}
use Rattle.aich.specs.Rule.{offers}
use Rattle.aich.proofs.set.allowed.Goals as goal

pub returns-then-available-s-eq1 : goal.returns-then-available-s-eq1
unfolding offers
returns-then-available-s-eq1 c = rw (eq-eqb _ _ c.if-available-s-eq1.true)

pub returns-else-available-s-eq1 : goal.returns-else-available-s-eq1
unfolding offers
returns-else-available-s-eq1 c = rw (ne_eqb _ 1 c.if-available-s-eq1.false) (bits_eq_z c.ranges.indicator (search rules))
