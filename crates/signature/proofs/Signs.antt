-- Laws of the signatures: pairs, symmetry, size; their sixteen rows are orthogonal.
-- Assumes nothing.
use mathlib.Core.Path.{◌≡◌, refl, ap, ◌∙◌}
use mathlib.Core.Bool.{Bool, true, false, cond}
use Prim.Native.Nat.{ℕ, ◌+◌, ◌*◌, ◌/◌, ◌%◌, ◌<◌}
use native.Mathlib.Omega.{arith}
use lib.Bits.{bit_and, and_comm}
use lib.Count.{ones}
use lib.Dec.{eqb}
use lib.IntN.{pos, negsuc, ◌+ℤ◌, ◌*ℤ◌}
use Rattle.run.specs.First.{first_bad, all}
use Rattle.run.proofs.Passing.{all_every}
use Rattle.whole.specs.Bound.{Bounded}
use Rattle.whole.specs.Equal.{eq_z}
use Rattle.whole.specs.Sum.{sum}
use Rattle.whole.proofs.Bound.{b_lit}
use Rattle.whole.proofs.Equal.{eq_z_true}
use Rattle.whole.proofs.Sum.{sum_same, sum_plus, sum_pairs}
use Rattle.signature.specs.Rule.{is_plus, sign}

pub sign_small : (s j : ℕ) → Bounded 1 (sign s j)
unfolding sign
sign_small s j = small (is_plus s j)
  where
    small : (b : Bool) → Bounded 1 (cond b (pos 1) (negsuc 0))
    small true = b_lit tt
    small false = b_lit tt

-- a sign is its pair's
plus_half : (s j k : ℕ) → j / 2 ≡ k / 2 → is_plus s j ≡ is_plus s k
unfolding is_plus
plus_half s j k e = ap (λ (i : ℕ). eqb (ones (bit_and s i) % 2) 0) e

pub sign_half : (s j k : ℕ) → j / 2 ≡ k / 2 → sign s j ≡ sign s k
unfolding sign
sign_half s j k e = ap (λ (b : Bool). cond b (pos 1) (negsuc 0)) (plus_half s j k e)

pub sign_second : (s k : ℕ) → sign s (2 * k + 1) ≡ sign s (2 * k)
sign_second s k = sign_half s (2 * k + 1) (2 * k) (omega arith)

-- signature s has at pair k what signature k has at pair s
plus_swap : (s k : ℕ) → is_plus s (2 * k) ≡ is_plus k (2 * s)
unfolding is_plus
plus_swap s k =
    let p : 2 * k / 2 ≡ k = omega arith in
    let q : 2 * s / 2 ≡ s = omega arith in
    rw (p, q, and_comm s k)

pub sign_swap : (s k : ℕ) → sign s (2 * k) ≡ sign k (2 * s)
unfolding sign
sign_swap s k = ap (λ (b : Bool). cond b (pos 1) (negsuc 0)) (plus_swap s k)

-- over the pairs, each row with itself makes 16 and with any other 0: one test over all rows, which antt computes
half_test : ℕ → ℕ → Bool
half_test s t = eq_z (sum 16 (λ (k : ℕ). sign s (2 * k) *ℤ sign t (2 * k))) (cond (eqb s t) (pos 16) (pos 0))

row_test : ℕ → Bool
row_test s = all 16 (half_test s)

all_rows : all 16 row_test ≡ true
unfolding row_test half_test first_bad sign is_plus sum ones
all_rows = refl

pub half_dot : (s t : ℕ) → s < 16 → t < 16 → sum 16 (λ (k : ℕ). sign s (2 * k) *ℤ sign t (2 * k)) ≡ cond (eqb s t) (pos 16) (pos 0)
unfolding row_test half_test
half_dot s t h l =
    eq_z_true _ _ (all_every 16 (half_test s) (all_every 16 row_test all_rows s h) t l)

twice : (b : Bool) → cond b (pos 16) (pos 0) +ℤ cond b (pos 16) (pos 0) ≡ cond b (pos 32) (pos 0)
twice true = refl
twice false = refl

-- over all 32 values: 32 and 0
pub dot : (s t : ℕ) → s < 16 → t < 16 → sum 32 (λ (j : ℕ). sign s j *ℤ sign t j) ≡ cond (eqb s t) (pos 32) (pos 0)
dot s t h l =
    sum_pairs 16 (λ j. sign s j *ℤ sign t j)
    ∙ sum_same 16 _ (λ k. sign s (2 * k) *ℤ sign t (2 * k) +ℤ sign s (2 * k) *ℤ sign t (2 * k))
    (λ k m. rw (sign_second s k, sign_second t k))
    ∙ sum_plus 16 (λ k. sign s (2 * k) *ℤ sign t (2 * k)) (λ k. sign s (2 * k) *ℤ sign t (2 * k))
    ∙ rw (half_dot s t h l) (twice (eqb s t))
