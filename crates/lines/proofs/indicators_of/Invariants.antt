use Rattle.run.proofs.Front.{Front}
use Rattle.lines.specs.Rule.{indicators_of}
use Rattle.lines.proofs.indicators_of.Given as goal

abbrev pub invariant-loop-s : goal.invariant-loop-s
invariant-loop-s l = Front (indicators_of l.r) l.initial.indicators l.indicators l.s
