use Prim.Native.Nat.{◌*◌}
use Rattle.run.proofs.Front.{Front}
use Rattle.dpch.specs.Compressed.{format_in}
use Rattle.compressed.specs.Rule.{frame_of}
use Rattle.compressed_map.proofs.slots.write.Given as goal

abbrev pub invariant-loop-k : goal.invariant-loop-k
invariant-loop-k l = Front (frame_of (format_in l.kind l.format) l.first l.missing l.«data» l.tfci l.commands) l.initial.out l.out (l.k * l.w)
