-- `range::lies` meets its contract.
use mathlib.Core.Path.{refl}
use mir.Syntax.{w32}
use mir.Facts.{to_z-of_z}
use Rattle.run.specs.Ranges.{between}
use Rattle.range.proofs.lies.Goals as goal

pub returns : goal.returns
unfolding between
returns c =
    let f = c.ranges in
    rw (to_z-of_z {w = w32} f.x, to_z-of_z {w = w32} f.low, to_z-of_z {w = w32} f.high) refl
