-- `combiner::gain_in` meets its contract.
use mathlib.Core.Path.{ap, ◌∙◌}
use mir.Syntax.{w64}
use mir.Facts.{to_z-of_z}
use Rattle.combiner.specs.Outcome.{gain_in}
use Rattle.combiner.proofs.gain_in.Goals as goal

pub returns : goal.returns
returns c = c.between.ensures ∙ ap gain_in (to_z-of_z {w = w64} c.ranges.part)
