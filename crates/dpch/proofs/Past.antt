-- A number that is none of the first k is at least k: a match's last arm, climbed to one number at a time.
-- Assumes nothing.
use mathlib.Core.Path.{◌≡◌}
use Prim.Native.Nat.{ℕ, suc, ◌≤◌}
use native.Mathlib.Omega.{arith}

-- a number that is at least k and not k is above k
pub climb : (k n : ℕ) → k ≤ n → (n ≡ k → ⊥) → suc k ≤ n
climb k n h e = omega arith
