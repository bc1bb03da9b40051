use Prim.Native.Nat.{◌-◌}
use Rattle.bank_check.proofs.Whole.{Walking}
use Rattle.bank_check.proofs.is_bank.Given as goal

abbrev pub invariant-loop-at : goal.invariant-loop-at
invariant-loop-at l = Walking l.bank l.total l.at l.seen

abbrev pub decreases-loop-at : goal.decreases-loop-at
decreases-loop-at l = l.total - l.at
