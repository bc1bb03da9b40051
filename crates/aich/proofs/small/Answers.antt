-- `aich::small` meets its contract.
use mir.Syntax.{w32}
use mir.Facts.{to_z-of_z}
use Rattle.run.specs.Ranges.{between}
use Rattle.aich.proofs.small.Goals as goal

pub returns-then-a-geminus16 : goal.returns-then-a-geminus16
unfolding between
returns-then-a-geminus16 c =
    let f = c.ranges in
    rw (to_z-of_z {w = w32} f.a, rw (to_z-of_z {w = w32} f.a) at c.if-a-geminus16.true)

pub returns-else-a-geminus16 : goal.returns-else-a-geminus16
unfolding between
returns-else-a-geminus16 c =
    let f = c.ranges in
    rw (rw (to_z-of_z {w = w32} f.a) at c.if-a-geminus16.false) c.if-a-geminus16.false
