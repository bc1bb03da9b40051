use Rattle.aich.specs.Method.{alike}
use Rattle.run.proofs.Passing.{Passing}
use Rattle.aich.proofs.all_alike.Given as goal

abbrev pub invariant-loop-k : goal.invariant-loop-k
invariant-loop-k l = Passing (alike l.values) 16 l.k l.good
