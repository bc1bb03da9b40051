-- The size of a whole number.
-- Assumes nothing.
use Rattle.std.specs.Prelude.{ℕ, ◌≤◌, ℤ, nat_abs}

-- z lies in -B to B
pub record Bounded (B : ℕ) (z : ℤ) : Type 0 where
  pub size : nat_abs z ≤ B
