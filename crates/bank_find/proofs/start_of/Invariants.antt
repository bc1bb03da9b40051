use Prim.Native.Nat.{◌-◌}
use Rattle.bank_find.proofs.Seek.{Seeking}
use Rattle.bank_find.proofs.start_of.Given as goal

abbrev pub invariant-loop-at : goal.invariant-loop-at
invariant-loop-at l = Seeking l.bank l.number l.total l.at

abbrev pub decreases-loop-at : goal.decreases-loop-at
decreases-loop-at l = l.total - l.at
