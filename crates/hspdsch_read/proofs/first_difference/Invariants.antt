use Prim.Native.Nat.{◌*◌}
use Rattle.run.specs.First.{Every, agree}
use Rattle.hspdsch.specs.Rule.{coded}
use Rattle.hspdsch.specs.Outcome.{flip}
use Rattle.hspdsch_read.proofs.first_difference.Given as goal

abbrev pub invariant-loop-k : goal.invariant-loop-k
invariant-loop-k l = Every (agree (coded flip l.format l.antenna1) l.antenna2) (64 * l.k)
