-- `sample::is_value` meets its contract: the range is that of `is_value`, of what the machine reads back from the value's bits, which is the value.
use mathlib.Core.Path.{ap, ◌∙◌}
use mir.Syntax.{w64}
use mir.Facts.{to_z-of_z}
use Rattle.sample.specs.Rule.{is_value}
use Rattle.sample.proofs.is_value.Goals as goal

pub returns : goal.returns
returns c = c.between.ensures ∙ ap is_value (to_z-of_z {w = w64} c.ranges.v)
