use mathlib.Core.Path.{◌≡◌}
use Prim.Native.Nat.{ℕ, ◌<◌}
use Rattle.dpcch.specs.Outcome.{slot_fields}
use Rattle.dpcch_frame_map.proofs.slots.check_fields.Given as goal

abbrev pub invariant-loop-k : goal.invariant-loop-k
invariant-loop-k l = (j : ℕ) → j < l.k → (slot_fields l.format l.tfci l.fbi l.commands j).number ≡ 0
