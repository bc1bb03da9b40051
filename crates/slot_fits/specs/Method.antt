-- How the code asks whether the fields of a slot fit: what its private functions ask and promise. Nothing here is part of a public promise.
-- Assumes nothing.
use Rattle.std.specs.Prelude.{ℕ, ◌≡◌}
use Rattle.dpch.specs.Formats.{kind_b}

-- a width that a format's pilot can have: 2, 4, 8 or 16, or 0 where there is no format; in B 4, 8, 16 or 32
pub record PilotWidth (kind n : ℕ) : Type 0 where
  pub none : (kind ≡ kind_b → ⊥) → (n ≡ 2 → ⊥) → (n ≡ 4 → ⊥) → (n ≡ 8 → ⊥) → (n ≡ 16 → ⊥) → n ≡ 0
  pub none_doubled : kind ≡ kind_b → (n ≡ 4 → ⊥) → (n ≡ 8 → ⊥) → (n ≡ 16 → ⊥) → (n ≡ 32 → ⊥) → n ≡ 0
