-- What an answer of a C call tells, and that a promise allows one outcome. Proved in proofs/Exact.antt, each under its name in small letters.
-- Assumes nothing.
use Rattle.std.specs.Prelude.{ℕ, ◌≡◌, List, length}
use Rattle.dpch.specs.Compressed.{format_in}
use Rattle.compressed.specs.Outcome.{map_verdict, read_verdict}
use Rattle.packed.specs.Exact.{Tells}
use Rattle.slt_compressed.specs.Outcome.{CompressedMap, CompressedRead}

-- what an answer tells of the call
pub record CompressedTells : Type 0 where
  pub map : (format kind first missing : ℕ) (d tfci out commands : List ℕ) (answer : ℕ) (after : List ℕ) → CompressedMap format kind first missing d tfci out commands answer after
      → Tells answer (map_verdict (format_in kind format) first missing d tfci (length out) commands) 0
  pub read : (format kind first missing : ℕ) (xs d tfci commands : List ℕ) (answer : ℕ) (x t c : List ℕ) → CompressedRead format kind first missing xs d tfci commands answer x t c
      → Tells answer (read_verdict (format_in kind format) first missing xs (length d) (length tfci) (length commands)) 0

-- two outcomes that a promise allows are equal
pub record CompressedOnce : Type 0 where
  pub map : (format kind first missing : ℕ) (d tfci out commands : List ℕ) (a b : ℕ) (x y : List ℕ)
      → CompressedMap format kind first missing d tfci out commands a x → CompressedMap format kind first missing d tfci out commands b y → (a ≡ b) × (x ≡ y)
  pub read : (format kind first missing : ℕ) (xs d tfci commands : List ℕ) (a b : ℕ) (x y s t u v : List ℕ)
      → CompressedRead format kind first missing xs d tfci commands a x s u → CompressedRead format kind first missing xs d tfci commands b y t v → (a ≡ b) × (x ≡ y) × (s ≡ t) × (u ≡ v)
