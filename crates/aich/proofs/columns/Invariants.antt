use Rattle.aich.specs.Method.{Turned}
use Rattle.aich.proofs.columns.Given as goal

abbrev pub invariant-loop-k : goal.invariant-loop-k
invariant-loop-k l = Turned l.k l.x l.y
