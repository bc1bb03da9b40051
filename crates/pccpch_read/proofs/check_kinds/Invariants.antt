use Prim.Native.Nat.{◌*◌}
use Rattle.run.specs.First.{Every}
use Rattle.pccpch.specs.Outcome.{right_kind}
use Rattle.pccpch_read.proofs.check_kinds.Given as goal

abbrev pub invariant-loop-slot : goal.invariant-loop-slot
invariant-loop-slot l = Every (right_kind l.antenna1) (20 * l.slot)
