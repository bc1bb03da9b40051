-- `range::between` meets its contract.

use mir.Syntax.{w64}
use mir.Facts.{to_z-of_z}
use Rattle.run.specs.Ranges.{between}
use Rattle.range.proofs.between.Goals as goal

pub returns-then-low-x : goal.returns-then-low-x
unfolding between
returns-then-low-x c =
    let f = c.ranges in
    rw (to_z-of_z {w = w64} f.x, to_z-of_z {w = w64} f.high, rw (to_z-of_z {w = w64} f.x, to_z-of_z {w = w64} f.low) at c.if-low-x.true)

pub returns-else-low-x : goal.returns-else-low-x
unfolding between
returns-else-low-x c =
    let f = c.ranges in
    rw (rw (to_z-of_z {w = w64} f.x, to_z-of_z {w = w64} f.low) at c.if-low-x.false) c.if-low-x.false
