use Prim.Native.Nat.{◌-◌}
use Rattle.run.specs.First.{agree}
use Rattle.run.proofs.Passing.{Passing}
use Rattle.scan_diff.proofs.all_agree.Given as goal

abbrev pub invariant-loop-k : goal.invariant-loop-k
invariant-loop-k l = Passing (agree l.s l.t) l.n l.k l.good
