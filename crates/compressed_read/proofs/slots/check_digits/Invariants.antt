use mathlib.Core.Path.{◌≡◌}
use Prim.Native.Nat.{ℕ, ◌<◌}
use Rattle.dpch.specs.Compressed.{format_in}
use Rattle.compressed.specs.Outcome.{slot_verdict}
use Rattle.compressed_read.proofs.slots.check_digits.Given as goal

abbrev pub invariant-loop-k : goal.invariant-loop-k
invariant-loop-k l = (j : ℕ) → j < l.k → (slot_verdict (format_in l.kind l.format) l.first l.missing l.xs j).number ≡ 0
