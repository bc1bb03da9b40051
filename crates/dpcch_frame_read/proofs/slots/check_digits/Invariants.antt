use mathlib.Core.Path.{◌≡◌}
use Prim.Native.Nat.{ℕ, ◌<◌}
use Rattle.dpcch.specs.Outcome.{slot_digits}
use Rattle.dpcch_frame_read.proofs.slots.check_digits.Given as goal

abbrev pub invariant-loop-k : goal.invariant-loop-k
invariant-loop-k l = (j : ℕ) → j < l.k → (slot_digits l.format l.xs j).number ≡ 0
