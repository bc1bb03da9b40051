use Prim.Native.Nat.{◌*◌}
use Rattle.run.proofs.Front.{Front}
use Rattle.dpch.specs.Uplink.{dpcch_format}
use Rattle.dpcch.specs.Rule.{frame_of}
use Rattle.dpcch_frame_map.proofs.slots.write.Given as goal

abbrev pub invariant-loop-slot : goal.invariant-loop-slot
invariant-loop-slot l = Front (frame_of (dpcch_format l.format) l.tfci l.fbi l.commands) l.initial.out l.out (l.slot * l.w)
