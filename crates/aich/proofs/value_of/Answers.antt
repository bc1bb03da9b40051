-- `aich::value_of` meets its contract: the pairs are alike, so that the second way is none.
use mathlib.Core.Path.{ap}
use mir.Syntax.{w32}
use mir.Val.{of_z}
use Rattle.aich.proofs.Reading.{pair_same, pair_kept}
use Rattle.aich.proofs.value_of.Goals as goal

pub returns-then-a-values : goal.returns-then-a-values
returns-then-a-values c = let start = c in pair_kept _ start.requires.0 _ start.requires.1

pub returns-else-a-values : goal.returns-else-a-values
returns-else-a-values c = let start = c in absurd (c.if-a-values.false (ap (of_z w32) (pair_same _ start.requires.0 _ start.requires.1)))
