use Rattle.run.proofs.Backward.{Backward}
use Rattle.aich.specs.Rule.{allows}
use Rattle.aich.proofs.set.first_stray.Given as goal

abbrev pub invariant-loop-i : goal.invariant-loop-i
invariant-loop-i l = Backward (allows l.available l.indicators) 16 l.i l.first
