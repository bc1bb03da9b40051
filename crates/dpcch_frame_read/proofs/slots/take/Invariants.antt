use Prim.Native.Nat.{◌*◌}
use Rattle.run.proofs.Front.{Front}
use Rattle.dpch.specs.Uplink.{dpcch_format}
use Rattle.dpcch.specs.Rule.{frame_tfci_in, frame_fbi_in, commands_in}
use Rattle.dpcch_frame_read.proofs.slots.take.Given as goal

abbrev pub invariant-loop-k : goal.invariant-loop-k
invariant-loop-k l = Front (frame_tfci_in (dpcch_format l.format) l.xs) l.initial.tfci l.tfci (l.k * l.n) × Front (frame_fbi_in (dpcch_format l.format) l.xs) l.initial.fbi l.fbi (l.k * l.m) × Front (commands_in (dpcch_format l.format) l.xs) l.initial.commands l.commands l.k
