use Prim.Native.Nat.{◌*◌}
use Rattle.run.proofs.Front.{Front}
use Rattle.dpch.specs.Formats.{format_of}
use Rattle.frame.specs.Rule.{data_in, tfci_in, commands_in}
use Rattle.frame_read.proofs.slots.take.Given as goal

abbrev pub invariant-loop-k : goal.invariant-loop-k
invariant-loop-k l = Front (data_in (format_of l.format) l.xs) l.initial.«data» l.«data» (l.k * l.n) × Front (tfci_in (format_of l.format) l.xs) l.initial.tfci l.tfci (l.k * l.m) × Front (commands_in (format_of l.format) l.xs) l.initial.commands l.commands l.k
