use Rattle.run.specs.Written.{over}
use Rattle.run.proofs.Front.{Front}
use Rattle.write.proofs.copy.Given as goal

abbrev pub invariant-loop-i : goal.invariant-loop-i
invariant-loop-i l = Front (over l.src l.initial.dst) l.initial.dst l.dst l.i
