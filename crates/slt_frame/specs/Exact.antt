-- What an answer of a C call tells, and that a promise allows one outcome. Proved in proofs/Exact.antt, each under its name in small letters.
-- Assumes nothing.
use Rattle.std.specs.Prelude.{ℕ, ◌≡◌, List, length}
use Rattle.frame.specs.Outcome.{map_verdict, read_verdict}
use Rattle.packed.specs.Exact.{Tells}
use Rattle.slt_frame.specs.Outcome.{FrameMap, FrameRead}

-- what an answer tells of the call
pub record FrameTells : Type 0 where
  pub map : (format : ℕ) (d tfci out commands : List ℕ) (answer : ℕ) (after : List ℕ) → FrameMap format d tfci out commands answer after
      → Tells answer (map_verdict format d tfci (length out) commands) 0
  pub read : (format : ℕ) (xs d tfci commands : List ℕ) (answer : ℕ) (x t c : List ℕ) → FrameRead format xs d tfci commands answer x t c
      → Tells answer (read_verdict format xs (length d) (length tfci) (length commands)) 0

-- two outcomes that a promise allows are equal
pub record FrameOnce : Type 0 where
  pub map : (format : ℕ) (d tfci out commands : List ℕ) (a b : ℕ) (x y : List ℕ) → FrameMap format d tfci out commands a x → FrameMap format d tfci out commands b y
      → (a ≡ b) × (x ≡ y)
  pub read : (format : ℕ) (xs d tfci commands : List ℕ) (a b : ℕ) (x y s t u v : List ℕ) → FrameRead format xs d tfci commands a x s u → FrameRead format xs d tfci commands b y t v
      → (a ≡ b) × (x ≡ y) × (s ≡ t) × (u ≡ v)
