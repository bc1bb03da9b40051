use Prim.Native.Nat.{◌*◌}
use Rattle.run.proofs.Front.{Front}
use Rattle.dpch.specs.Compressed.{format_in}
use Rattle.compressed.specs.Rule.{data_in, tfci_in, commands_in}
use Rattle.compressed_read.proofs.slots.take.Given as goal

abbrev pub invariant-loop-t : goal.invariant-loop-t
invariant-loop-t l = Front (data_in (format_in l.kind l.format) l.first l.missing l.xs) l.initial.«data» l.«data» (l.t * l.n) × Front (tfci_in (format_in l.kind l.format) l.first l.missing l.xs) l.initial.tfci l.tfci (l.t * l.m) × Front (commands_in (format_in l.kind l.format) l.first l.missing l.xs) l.initial.commands l.commands l.t
