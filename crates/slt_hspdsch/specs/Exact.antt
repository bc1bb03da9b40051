-- What an answer of a C call tells, and that a promise allows one outcome. Proved in proofs/Exact.antt, each under its name in small letters.
-- Assumes nothing.
use Rattle.std.specs.Prelude.{ℕ, ◌≡◌, List, length}
use Rattle.hspdsch.specs.Outcome.{map_verdict, read_verdict}
use Rattle.packed.specs.Exact.{Tells}
use Rattle.slt_hspdsch.specs.Outcome.{HspdschMap, HspdschRead}

-- what an answer tells of the call
pub record HspdschTells : Type 0 where
  pub map : (format : ℕ) (d antenna1 antenna2 : List ℕ) (answer : ℕ) (x y : List ℕ) → HspdschMap format d antenna1 antenna2 answer x y
      → Tells answer (map_verdict format d (length antenna1) (length antenna2)) 0
  pub read : (format : ℕ) (antenna1 antenna2 d : List ℕ) (answer : ℕ) (after : List ℕ) → HspdschRead format antenna1 antenna2 d answer after
      → Tells answer (read_verdict format antenna1 antenna2 (length d)) 0

-- two outcomes that a promise allows are equal
pub record HspdschOnce : Type 0 where
  pub map : (format : ℕ) (d antenna1 antenna2 : List ℕ) (a b : ℕ) (x y s t : List ℕ) → HspdschMap format d antenna1 antenna2 a x s → HspdschMap format d antenna1 antenna2 b y t
      → (a ≡ b) × (x ≡ y) × (s ≡ t)
  pub read : (format : ℕ) (antenna1 antenna2 d : List ℕ) (a b : ℕ) (x y : List ℕ) → HspdschRead format antenna1 antenna2 d a x → HspdschRead format antenna1 antenna2 d b y
      → (a ≡ b) × (x ≡ y)
