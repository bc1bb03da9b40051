use Prim.Native.Nat.{◌*◌}
use Rattle.run.proofs.Front.{Front}
use Rattle.pccpch.specs.Rule.{frame_of}
use Rattle.pccpch.proofs.Laws.{blank}
use Rattle.pccpch.proofs.write_frame.Given as goal

abbrev pub invariant-loop-slot : goal.invariant-loop-slot
invariant-loop-slot l = Front (frame_of l.digits) blank l.frame (20 * l.slot)
