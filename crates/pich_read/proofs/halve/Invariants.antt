use Rattle.pich_read.proofs.Laws.{Halved}
use Rattle.pich_read.proofs.halve.Given as goal

abbrev pub invariant-loop-i : goal.invariant-loop-i
invariant-loop-i l = Halved l.run l.initial.half l.half l.i l.good
