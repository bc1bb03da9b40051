use lib.IntN.{pos}
use Rattle.run.proofs.Passing.{Passing}
use Rattle.whole.specs.Equal.{eq_z}
use Rattle.aich.specs.Rule.{allows}
use Rattle.aich.proofs.set.none_stray.Given as goal

abbrev pub invariant-loop-s : goal.invariant-loop-s
invariant-loop-s l = Passing (allows l.available l.indicators) 16 l.s (eq_z l.strays (pos 0))
