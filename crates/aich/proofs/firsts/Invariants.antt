use Rattle.run.proofs.Front.{Front}
use Rattle.aich.specs.Method.{firsts}
use Rattle.aich.proofs.firsts.Given as goal

abbrev pub invariant-loop-k : goal.invariant-loop-k
invariant-loop-k l = Front (firsts l.values) l.initial.firsts l.firsts l.k
