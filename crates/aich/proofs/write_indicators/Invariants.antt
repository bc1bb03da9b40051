use Prim.Native.Nat.{◌≤◌}
use Rattle.run.proofs.Front.{Front}
use Rattle.aich.specs.Method.{units_of}
use Rattle.aich.proofs.write_indicators.Given as goal

abbrev pub invariant-loop-s : goal.invariant-loop-s
invariant-loop-s l = (l.s ≤ 16) × Front (units_of l.sums) l.initial.indicators l.indicators l.s
