use mathlib.Core.Path.{◌≡◌}
use mathlib.Core.Bool.{true}
use Prim.Native.Nat.{ℕ, ◌<◌}
use Rattle.dpcch.specs.Outcome.{slot_digits}
use Rattle.dpcch_frame_read.proofs.slots.all_fit.Given as goal

abbrev pub invariant-loop-k : goal.invariant-loop-k
invariant-loop-k l = l.good ≡ true → (j : ℕ) → j < l.k → (slot_digits l.format l.xs j).number ≡ 0
