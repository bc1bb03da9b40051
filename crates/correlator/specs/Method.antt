-- How the code finds the numbers: what its private functions ask and promise. Nothing here is part of a public promise.
-- Assumes nothing.
use Rattle.std.specs.Prelude.{ℕ, zero, suc, ◌+◌, ◌*◌, ◌/◌, ◌^◌, ◌<◌, ◌≡◌, cond, List, ltb, length, get_or, ℤ, pos, ◌+ℤ◌}
use Rattle.run.specs.Table.{tab}
use Rattle.whole.specs.Bound.{Bounded}
use Rattle.correlator.specs.declared.Complex.{Complex}

-- both parts lie in -B to B
pub record Small (B : ℕ) (z : Complex) : Type 0 where
  pub re_in : Bounded B z.re
  pub im_in : Bounded B z.im

-- 32 numbers, each in -B to B
pub record Parts (B : ℕ) (x : List ℤ) : Type 0 where
  pub long : length x ≡ 32
  pub small : (k : ℕ) → k < 32 → Bounded B (get_or x k (pos 0))

-- how often n can be halved before it is 1, looked for f times
unfoldable pub halvings : ℕ → ℕ → ℕ
halvings zero n = 0
halvings (suc f) n = cond (ltb 1 n) (suc (halvings f (n / 2))) 0

-- the logarithm of a run's length: how deep folding goes
unfoldable pub depth : List ℤ → ℕ
depth x = halvings (length x) (length x)

-- a run of 2^n numbers, each in -bound to bound, that folding cannot make too large: a level doubles the bound and halves the length, so that their product stays
pub record Room (x : List ℤ) : Type 0 where
  pub bound : ℕ
  pub long : length x ≡ 2 ^ depth x
  pub small : (k : ℕ) → k < length x → Bounded bound (get_or x k (pos 0))
  pub fits : length x * bound < 2 ^ 63

-- two halves of h numbers whose sums and differences are not too large
pub record Halves (h : ℕ) (x : List ℤ) : Type 0 where
  pub bound : ℕ
  pub long : length x ≡ h + h
  pub small : (k : ℕ) → k < h + h → Bounded bound (get_or x k (pos 0))
  pub fits : bound + bound < 2 ^ 63

-- two components at a time: b(s, 2k) = b(s, 2k + 1)
unfoldable pub pair_sums : List ℤ → List ℤ
pair_sums t = tab 16 (λ (k : ℕ). get_or t (2 * k) (pos 0) +ℤ get_or t (2 * k + 1) (pos 0))
