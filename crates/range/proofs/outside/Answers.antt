-- `range::outside` meets its contract: where every number lies in the range there is no place.
use mathlib.Core.Path.{sym, ◌∙◌}
use mir.Syntax.{w32}
use mir.Facts.{to_z-of_z}
use lib.IntN.{pos}
use mathlib.Core.Bool.{not}
use Rattle.run.specs.Ranges.{between, in_range}
use Rattle.run.proofs.Passing.{all_every}
use Rattle.run.proofs.Places.{position_none, outside_opposite}
use Rattle.range.proofs.outside.Goals as goal

pub returns-then-all_lie : goal.returns-then-all_lie
returns-then-all_lie c =
    position_none (λ x. not (between c.args.low c.args.high x)) (in_range c.args.low c.args.high c.args.s.now) (pos 0) c.args.s.now
    (outside_opposite c.args.low c.args.high c.args.s.now) (all_every _ _ (rw (← to_z-of_z {w = w32} c.ranges.low, ← to_z-of_z {w = w32} c.ranges.high) (sym c.all_lie.ensures ∙ c.if-all_lie.true)))
