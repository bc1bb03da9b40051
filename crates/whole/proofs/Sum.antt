-- Laws of finite sums.
-- Assumes nothing.
use mathlib.Core.Path.{◌≡◌, refl, sym, ◌∙◌, subst}
use mathlib.Core.Logic.{⊎_elim}
use Prim.Native.Nat.{ℕ, zero, suc, ◌+◌, ◌*◌, ◌<◌}
use native.Mathlib.Nat.{add-zero, add-suc, le_refl, le_of_suc-le-suc, eq-or-lt_of_le, not-suc-le-zero, lt_irrefl}
use native.Mathlib.Omega.{arith}
use native.Mathlib.Numerals.{add-one}
use lib.IntN.{ℤ, pos, neg_ℤ, ◌+ℤ◌, ◌-ℤ◌, ◌*ℤ◌, +ℤ_assoc, +ℤ_idl, +ℤ_idr, zero-*ℤ, *ℤ-zero, neg_ℤ-+ℤ}
use Rattle.whole.specs.Sum.{sum}
use Rattle.whole.specs.Bound.{Bounded}
use Rattle.whole.proofs.Laws.{summands, distrib_r, distrib_l}
use Rattle.whole.proofs.Bound.{b_sum}

pub sum_same : (n : ℕ) (f g : ℕ → ℤ) → ((i : ℕ) → i < n → f i ≡ g i) → sum n f ≡ sum n g
unfolding sum
sum_same zero f g h = refl
sum_same (suc n) f g h = rw (sum_same n f g (λ i l. h i (omega arith)), h n (le_refl (suc n)))

pub sum_plus : (n : ℕ) (f g : ℕ → ℤ) → sum n (λ i. f i +ℤ g i) ≡ sum n f +ℤ sum n g
unfolding sum
sum_plus zero f g = refl
sum_plus (suc n) f g = rw (sum_plus n f g) (simp summands)

pub sum_minus : (n : ℕ) (f g : ℕ → ℤ) → sum n (λ i. f i -ℤ g i) ≡ sum n f -ℤ sum n g
unfolding sum
sum_minus zero f g = refl
sum_minus (suc n) f g = rw (sum_minus n f g, neg_ℤ-+ℤ) (simp summands)

pub sum_neg : (n : ℕ) (f : ℕ → ℤ) → sum n (λ i. neg_ℤ (f i)) ≡ neg_ℤ (sum n f)
unfolding sum
sum_neg zero f = refl
sum_neg (suc n) f = rw (sum_neg n f, neg_ℤ-+ℤ)

-- a factor of every term, on the right and on the left
pub sum_times : (n : ℕ) (f : ℕ → ℤ) (k : ℤ) → sum n (λ i. f i *ℤ k) ≡ sum n f *ℤ k
unfolding sum
sum_times zero f k = sym (zero-*ℤ k)
sum_times (suc n) f k = rw (sum_times n f k, distrib_r)

pub times_sum : (n : ℕ) (f : ℕ → ℤ) (k : ℤ) → sum n (λ i. k *ℤ f i) ≡ k *ℤ sum n f
unfolding sum
times_sum zero f k = sym (*ℤ-zero k)
times_sum (suc n) f k = rw (times_sum n f k, distrib_l)

sum_zero : (n : ℕ) → sum n (λ i. pos 0) ≡ pos 0
unfolding sum
sum_zero zero = refl
sum_zero (suc n) = rw (sum_zero n)

pub sum_swap : (m n : ℕ) (f : ℕ → ℕ → ℤ) → sum m (λ i. sum n (λ j. f i j)) ≡ sum n (λ j. sum m (λ i. f i j))
unfolding sum
sum_swap zero n f = sym (sum_zero n)
sum_swap (suc m) n f = rw (sum_swap m n f) (sym (sum_plus n (λ j. sum m (λ i. f i j)) (λ j. f m j)))

-- every term is 0, and every term but that at t
pub sum_none : (n : ℕ) (f : ℕ → ℤ) → ((i : ℕ) → i < n → f i ≡ pos 0) → sum n f ≡ pos 0
sum_none n f h = sum_same n f (λ i. pos 0) h ∙ sum_zero n

pub sum_one : (n : ℕ) (f : ℕ → ℤ) (t : ℕ) → t < n → ((i : ℕ) → i < n → (i ≡ t → ⊥) → f i ≡ pos 0) → sum n f ≡ f t
unfolding sum
sum_one zero f t l h = absurd (not-suc-le-zero l)
sum_one (suc n) f t l h =
    ⊎_elim
    (λ e.
    rw (sum_none n f (λ i k. h i (omega arith) (λ q. lt_irrefl n (subst (λ (m : ℕ). m < n) (q ∙ e) k))), e)
    (+ℤ_idl (f n)))
    (λ k.
    rw (sum_one n f t k (λ i m ne. h i (omega arith) ne), h n (le_refl (suc n)) (λ q. lt_irrefl t (subst (λ (m : ℕ). t < m) q k)))
    (+ℤ_idr (f t)))
    (eq-or-lt_of_le (le_of_suc-le-suc l))

-- a front of m terms, and the n behind it
pub sum_join : (m n : ℕ) (f : ℕ → ℤ) → sum (m + n) f ≡ sum m f +ℤ sum n (λ k. f (m + k))
unfolding sum
sum_join m zero f = rw add-zero (sym (+ℤ_idr (sum m f)))
sum_join m (suc n) f = rw (add-suc, sum_join m n f) (+ℤ_assoc (sum m f) (sum n (λ k. f (m + k))) (f (m + n)))

-- two terms at a time
pub sum_pairs : (n : ℕ) (f : ℕ → ℤ) → sum (2 * n) f ≡ sum n (λ k. f (2 * k) +ℤ f (2 * k + 1))
unfolding sum
sum_pairs zero f = refl
sum_pairs (suc n) f =
    let e : 2 * suc n ≡ suc (suc (2 * n)) = omega arith in
    rw (e, sum_pairs n f, add-one) (simp summands)

pub sum_bound : (n : ℕ) (f : ℕ → ℤ) (B : ℕ) → ((i : ℕ) → i < n → Bounded B (f i)) → Bounded (n * B) (sum n f)
unfolding sum
sum_bound zero f B h = record { size = omega arith }
sum_bound (suc n) f B h =
    let p = b_sum (sum_bound n f B (λ i l. h i (omega arith))) (h n (le_refl (suc n))) in
    record { size = omega (arith, p.size) }
