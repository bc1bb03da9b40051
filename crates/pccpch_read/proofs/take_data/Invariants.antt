use Prim.Native.Nat.{◌*◌}
use Rattle.run.proofs.Front.{Front}
use Rattle.pccpch.specs.Rule.{data_in}
use Rattle.pccpch_read.proofs.take_data.Given as goal

abbrev pub invariant-loop-slot : goal.invariant-loop-slot
invariant-loop-slot l = Front (data_in l.frame) l.initial.«data» l.«data» (18 * l.slot)
