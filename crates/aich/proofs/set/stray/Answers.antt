-- `aich::set::stray` meets its contract: bit s of the set decides.
use borrow.Author.Tests.{ne_eqb}
use mir.Facts.{to_z-of_z}
use Rattle.aich.specs.Rule.{offers}
use Rattle.aich.proofs.set.stray.Goals as goal

pub returns-then-available-s-eq1 : goal.returns-then-available-s-eq1
unfolding offers
returns-then-available-s-eq1 c = rw c.if-available-s-eq1.true

pub returns-else-available-s-eq1 : goal.returns-else-available-s-eq1
unfolding offers
returns-else-available-s-eq1 c = rw (ne_eqb _ 1 c.if-available-s-eq1.false) (to_z-of_z c.ranges.indicator)
