-- What the AICH needs of the signatures (docs/RULES.md, 'AICH'). The statement is proved in proofs/Exact.antt under its name in small letters.
-- Assumes nothing.
use Rattle.std.specs.Prelude.{ℕ, ◌+◌, ◌*◌, ◌<◌, ◌≡◌, cond, eqb, pos, ◌*ℤ◌}
use Rattle.whole.specs.Sum.{sum}
use Rattle.signature.specs.Rule.{sign}

-- the sixteen rows of the table: two at a time they are orthogonal, and each comes in equal pairs
pub record Rows : Type 0 where
  pub orthogonal : (s t : ℕ) → s < 16 → t < 16 → sum 32 (λ (j : ℕ). sign s j *ℤ sign t j) ≡ cond (eqb s t) (pos 32) (pos 0)
  pub pairs : (s k : ℕ) → sign s (2 * k + 1) ≡ sign s (2 * k)
