use mathlib.Core.Path.{◌≡◌}
use Prim.Native.Nat.{ℕ, ◌<◌}
use Rattle.dpch.specs.Compressed.{format_in}
use Rattle.frame.specs.Outcome.{slot_fields}
use Rattle.compressed_map.proofs.slots.check_fields.Given as goal

abbrev pub invariant-loop-k : goal.invariant-loop-k
invariant-loop-k l = (j : ℕ) → j < l.k → (slot_fields (format_in l.kind l.format) l.«data» l.tfci l.commands j).number ≡ 0
