use Prim.Native.Nat.{◌-◌}
use lib.ListN.{length}
use Rattle.run.specs.Ranges.{in_range}
use Rattle.run.proofs.Passing.{Passing}
use Rattle.range.proofs.all_lie.Given as goal

abbrev pub invariant-loop-x : goal.invariant-loop-x
invariant-loop-x l = Passing (in_range l.low l.high l.s) (length l.s) l.x-index l.good
