use mathlib.Core.Path.{◌≡◌}
use Prim.Native.Nat.{ℕ, ◌<◌}
use Rattle.dpch.specs.Formats.{format_of}
use Rattle.frame.specs.Outcome.{slot_digits}
use Rattle.frame_read.proofs.slots.check_digits.Given as goal

abbrev pub invariant-loop-k : goal.invariant-loop-k
invariant-loop-k l = (j : ℕ) → j < l.k → (slot_digits (format_of l.format) l.xs j).number ≡ 0
