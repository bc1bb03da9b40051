-- What an answer of a C call tells, and that a promise allows one outcome. Proved in proofs/Exact.antt, each under its name in small letters.
-- Assumes nothing.
use Rattle.std.specs.Prelude.{ℕ, ◌≡◌, List, length}
use Rattle.pccpch.specs.Outcome.{map_verdict, read_verdict}
use Rattle.packed.specs.Exact.{Tells}
use Rattle.slt_pccpch.specs.Outcome.{PccpchMap, PccpchRead}

-- what an answer tells of the call
pub record PccpchTells : Type 0 where
  pub map : (d antenna1 antenna2 : List ℕ) (answer : ℕ) (x y : List ℕ) → PccpchMap d antenna1 antenna2 answer x y → Tells answer (map_verdict d (length antenna1) (length antenna2)) 0
  pub read : (antenna1 antenna2 d : List ℕ) (answer : ℕ) (after : List ℕ) → PccpchRead antenna1 antenna2 d answer after → Tells answer (read_verdict antenna1 antenna2 (length d)) 0

-- two outcomes that a promise allows are equal
pub record PccpchOnce : Type 0 where
  pub map : (d antenna1 antenna2 : List ℕ) (a b : ℕ) (x y s t : List ℕ) → PccpchMap d antenna1 antenna2 a x s → PccpchMap d antenna1 antenna2 b y t → (a ≡ b) × (x ≡ y) × (s ≡ t)
  pub read : (antenna1 antenna2 d : List ℕ) (a b : ℕ) (x y : List ℕ) → PccpchRead antenna1 antenna2 d a x → PccpchRead antenna1 antenna2 d b y → (a ≡ b) × (x ≡ y)
