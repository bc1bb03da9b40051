use Prim.Native.Nat.{◌*◌}
use Rattle.run.proofs.Front.{Front}
use Rattle.dpch.specs.Formats.{format_of}
use Rattle.frame.specs.Rule.{frame_of}
use Rattle.frame_map.proofs.slots.write.Given as goal

abbrev pub invariant-loop-slot : goal.invariant-loop-slot
invariant-loop-slot l = Front (frame_of (format_of l.format) l.«data» l.tfci l.commands) l.initial.out l.out (l.slot * l.w)
