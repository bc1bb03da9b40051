-- The sums over signatures undo themselves up to 16, so the indicators of values are those that give them; what no check refused; sizes.
-- Assumes nothing.
use mathlib.Core.Path.{◌≡◌, refl, sym, ap, ap₂, ◌∙◌, subst}
use mathlib.Core.Bool.{Bool, true, false, cond}
use mathlib.Core.List.{List}
use Prim.Native.Nat.{ℕ, zero, suc, ◌+◌, ◌*◌, ◌/◌, ◌<◌}
use native.Mathlib.Omega.{arith}
use borrow.Author.Tests.{eq-eqb, ne_eqb}
use lib.Dec.{eqb}
use lib.ListN.{length}
use lib.IntN.{ℤ, pos, negsuc, neg_ℤ, ◌+ℤ◌, ◌*ℤ◌, *ℤ-zero}
use lib.Signed.{lt_z}
use Rattle.run.proofs.Table.{tab_length, tab_at}
use Rattle.whole.specs.Bound.{Bounded}
use Rattle.whole.specs.Equal.{eq_z}
use Rattle.whole.specs.Sum.{sum}
use Rattle.whole.proofs.Bound.{b_lit, b_product}
use Rattle.whole.proofs.Equal.{eq_z_true}
use Rattle.whole.proofs.Laws.{*ℤ-assoc, factors}
use Rattle.whole.proofs.Sum.{sum_same, sum_plus, sum_times, times_sum, sum_swap, sum_one, sum_pairs, sum_bound}
use Rattle.signature.specs.Rule.{sign}
use Rattle.aich.specs.Rule.{value_at, values_of, correlation, unit, indicators_in}
use Rattle.aich.specs.Method.{half_of, firsts, sign_of, fits16}
use Rattle.signature.proofs.Signs.{sign_small, sign_half, sign_second, sign_swap, half_dot}
pub use Rattle.signature.proofs.Folding.{entry}

-- ---- one sum for each pair

-- values of a pair are equal
pub value_half : (x : List ℤ) (j k : ℕ) → j / 2 ≡ k / 2 → value_at x j ≡ value_at x k
unfolding value_at
value_half x j k e = sum_same 16 _ _ (λ s l. ap (λ (z : ℤ). entry x s *ℤ z) (sign_half s j k e))

pub half_length : (x : List ℤ) → length (half_of x) ≡ 16
unfolding half_of
half_length x = tab_length 16 _

pub half_at : (x : List ℤ) (k : ℕ) → k < 16 → entry (half_of x) k ≡ value_at x (2 * k)
unfolding half_of
half_at x k h = tab_at 16 (λ (i : ℕ). value_at x (2 * i)) k (pos 0) h

pub values_length : (x : List ℤ) → length (values_of x) ≡ 32
unfolding values_of
values_length x = tab_length 32 (value_at x)

pub value_at_lem : (x : List ℤ) (j : ℕ) → j < 32 → entry (values_of x) j ≡ value_at x j
unfolding values_of
value_at_lem x j h = tab_at 32 (value_at x) j (pos 0) h

-- value j is the sum of its pair
pub value_from_half : (x : List ℤ) (j : ℕ) → j < 32 → entry (half_of x) (j / 2) ≡ entry (values_of x) j
value_from_half x j h =
    half_at x (j / 2) (omega arith) ∙ value_half x (2 * (j / 2)) j (omega arith) ∙ sym (value_at_lem x j h)

-- runs with the same entries have the same sums
value_same : (x y : List ℤ) (j : ℕ) → ((s : ℕ) → s < 16 → entry x s ≡ entry y s) → value_at x j ≡ value_at y j
unfolding value_at
value_same x y j e = sum_same 16 _ _ (λ s l. ap (λ (z : ℤ). z *ℤ sign s j) (e s l))

-- sums of multiples
pub value_times : (x y : List ℤ) (n : ℤ) (j : ℕ) → ((s : ℕ) → s < 16 → entry y s ≡ entry x s *ℤ n) → value_at y j ≡ value_at x j *ℤ n
unfolding value_at
value_times x y n j e =
    sum_same 16 _ (λ s. entry x s *ℤ sign s j *ℤ n) (λ s l. rw (e s l) (simp factors))
    ∙ sum_times 16 (λ s. entry x s *ℤ sign s j) n

-- the values of indicators lie in -16 to 16
pub value_small : (x : List ℤ) (j : ℕ) → ((s : ℕ) → s < 16 → Bounded 1 (entry x s)) → Bounded 16 (value_at x j)
unfolding value_at
value_small x j small = sum_bound 16 (λ s. entry x s *ℤ sign s j) 1 (λ s l. b_product (small s l) (sign_small s j))

-- ---- twice the sums is 16 times the run

module _ (x : List ℤ) (t : ℕ) (h : t < 16) where
  one_term : (k : ℕ) → k < 16 → entry (half_of x) k *ℤ sign k (2 * t) ≡ sum 16 (λ (s : ℕ). entry x s *ℤ (sign s (2 * k) *ℤ sign t (2 * k)))
  unfolding value_at
  one_term k l =
      ap₂ (λ (y z : ℤ). y *ℤ z) (half_at x k l) (sign_swap k t)
      ∙ sym (sum_times 16 (λ s. entry x s *ℤ sign s (2 * k)) (sign t (2 * k)))
      ∙ sum_same 16 _ _ (λ s m. *ℤ-assoc (entry x s) (sign s (2 * k)) (sign t (2 * k)))

  other_row : (s : ℕ) → s < 16 → (s ≡ t → ⊥) → entry x s *ℤ cond (eqb s t) (pos 16) (pos 0) ≡ pos 0
  other_row s l ne = rw (ne_eqb s t ne) (*ℤ-zero (entry x s))

  pub half_twice : value_at (half_of x) (2 * t) ≡ entry x t *ℤ pos 16
  unfolding value_at
  half_twice =
      sum_same 16 _ _ one_term
      ∙ sum_swap 16 16 (λ k s. entry x s *ℤ (sign s (2 * k) *ℤ sign t (2 * k)))
      ∙ sum_same 16 _ (λ s. entry x s *ℤ cond (eqb s t) (pos 16) (pos 0))
      (λ s l. times_sum 16 (λ k. sign s (2 * k) *ℤ sign t (2 * k)) (entry x s) ∙ ap (λ (z : ℤ). entry x s *ℤ z) (half_dot s t l h))
      ∙ sum_one 16 (λ s. entry x s *ℤ cond (eqb s t) (pos 16) (pos 0)) t h other_row
      ∙ rw (eq-eqb t t refl)

-- ---- an indicator, and 16 or 32 times it

unit_small : (n : ℕ) (z : ℤ) → Bounded 1 (unit n z)
unfolding unit
unit_small n z = small (eq_z z (pos n)) (eq_z z (neg_ℤ (pos n)))
  where
    small : (a b : Bool) → Bounded 1 (cond a (pos 1) (cond b (negsuc 0) (pos 0)))
    small true b = b_lit tt
    small false true = b_lit tt
    small false false = b_lit tt

-- what holds of -1, 0 and +1 holds of every indicator
each_unit : (P : ℤ → Type 0) → P (negsuc 0) → P (pos 0) → P (pos 1) → (y : ℤ) → Bounded 1 y → P y
each_unit P a b c (pos zero) h = b
each_unit P a b c (pos (suc zero)) h = c
each_unit P a b c (pos (suc (suc n))) h = absurd (omega (arith, h.size))
each_unit P a b c (negsuc zero) h = a
each_unit P a b c (negsuc (suc n)) h = absurd (omega (arith, h.size))

unit_back : (y : ℤ) → Bounded 1 y → unit 32 (y *ℤ pos 16 +ℤ y *ℤ pos 16) ≡ y
unfolding unit
unit_back = each_unit (λ (y : ℤ). unit 32 (y *ℤ pos 16 +ℤ y *ℤ pos 16) ≡ y) refl refl refl

pub unit_fits : (y : ℤ) → Bounded 1 y → fits16 (y *ℤ pos 16) ≡ true
unfolding fits16 sign_of
unit_fits = each_unit (λ (y : ℤ). fits16 (y *ℤ pos 16) ≡ true) refl refl refl

-- a sign is one of three
each_sign : (P : ℤ → Type 0) → P (negsuc 0) → P (pos 0) → P (pos 1) → (z : ℤ) → P (sign_of z)
unfolding sign_of
each_sign P a b c z = side (lt_z (pos 0) z) (lt_z z (pos 0))
  where
    side : (p q : Bool) → P (cond p (pos 1) (cond q (negsuc 0) (pos 0)))
    side true q = c
    side false true = a
    side false false = b

pub sign_of_small : (z : ℤ) → Bounded 1 (sign_of z)
sign_of_small = each_sign (Bounded 1) (b_lit tt) (b_lit tt) (b_lit tt)

-- what holds of -16, 0 and 16 holds of whatever fits
each_fit : (P : ℤ → Type 0) → P (negsuc 15) → P (pos 0) → P (pos 16) → (z : ℤ) → fits16 z ≡ true → P z
unfolding fits16
each_fit P a b c z e = subst P (eq_z_true _ _ e) (each_sign (λ (y : ℤ). P (pos 16 *ℤ y)) a b c z)

-- its indicator is its sign
pub fit_sign : (z : ℤ) → fits16 z ≡ true → unit 16 z ≡ sign_of z
unfolding unit sign_of
fit_sign = each_fit (λ (z : ℤ). unit 16 z ≡ sign_of z) refl refl refl

pub fit_is : (z : ℤ) → fits16 z ≡ true → z ≡ unit 16 z *ℤ pos 16
unfolding unit
fit_is = each_fit (λ (z : ℤ). z ≡ unit 16 z *ℤ pos 16) refl refl refl

pub fit_zero : (z : ℤ) → fits16 z ≡ true → eq_z z (pos 0) ≡ eq_z (unit 16 z) (pos 0)
unfolding unit
fit_zero = each_fit (λ (z : ℤ). eq_z z (pos 0) ≡ eq_z (unit 16 z) (pos 0)) refl refl refl

pub fit_twice : (z : ℤ) → fits16 z ≡ true → unit 32 (z +ℤ z) ≡ unit 16 z
unfolding unit
fit_twice = each_fit (λ (z : ℤ). unit 32 (z +ℤ z) ≡ unit 16 z) refl refl refl

-- ---- the indicators of values

pub indicators_length : (v : List ℤ) → length (indicators_in v) ≡ 16
unfolding indicators_in
indicators_length v = tab_length 16 _

pub indicator_at : (v : List ℤ) (s : ℕ) → s < 16 → entry (indicators_in v) s ≡ unit 32 (correlation v s)
unfolding indicators_in
indicator_at v s h = tab_at 16 (λ (t : ℕ). unit 32 (correlation v t)) s (pos 0) h

pub indicator_small : (v : List ℤ) (s : ℕ) → s < 16 → Bounded 1 (entry (indicators_in v) s)
indicator_small v s h = rw (indicator_at v s h) (unit_small 32 (correlation v s))

pub firsts_length : (v : List ℤ) → length (firsts v) ≡ 16
unfolding firsts
firsts_length v = tab_length 16 _

pub first_at : (v : List ℤ) (k : ℕ) → k < 16 → entry (firsts v) k ≡ entry v (2 * k)
unfolding firsts
first_at v k h = tab_at 16 (λ (i : ℕ). entry v (2 * i)) k (pos 0) h

-- where pairs are of equal values the correlation is that of one of each, twice
pub pairs_correlate : (v : List ℤ) → ((k : ℕ) → k < 16 → entry v (2 * k) ≡ entry v (2 * k + 1)) → (s : ℕ)
    → correlation v s ≡ value_at (firsts v) (2 * s) +ℤ value_at (firsts v) (2 * s)
unfolding correlation value_at
pairs_correlate v like s =
    sum_pairs 16 (λ j. entry v j *ℤ sign s j)
    ∙ sum_same 16 _ (λ k. entry (firsts v) k *ℤ sign k (2 * s) +ℤ entry (firsts v) k *ℤ sign k (2 * s))
    (λ k l. rw (← like k l, sign_second s k, sign_swap s k, first_at v k l))
    ∙ sum_plus 16 (λ k. entry (firsts v) k *ℤ sign k (2 * s)) (λ k. entry (firsts v) k *ℤ sign k (2 * s))

-- ---- what indicators give
module _ (x : List ℤ) (v : List ℤ) (is : (j : ℕ) → j < 32 → value_at x j ≡ entry v j) where
  pub given_alike : (k : ℕ) → k < 16 → entry v (2 * k) ≡ entry v (2 * k + 1)
  given_alike k h =
      sym (is (2 * k) (omega arith)) ∙ value_half x (2 * k) (2 * k + 1) (omega arith) ∙ is (2 * k + 1) (omega arith)

  given_first : (k : ℕ) → k < 16 → entry (firsts v) k ≡ entry (half_of x) k
  given_first k h = first_at v k h ∙ sym (is (2 * k) (omega arith)) ∙ sym (half_at x k h)

  pub given_sum : (s : ℕ) → s < 16 → value_at (firsts v) (2 * s) ≡ entry x s *ℤ pos 16
  given_sum s h = value_same (firsts v) (half_of x) (2 * s) given_first ∙ half_twice x s h

  -- .. is read back
  pub given_back : (s : ℕ) → s < 16 → Bounded 1 (entry x s) → entry (indicators_in v) s ≡ entry x s
  given_back s h b =
      indicator_at v s h ∙ ap (unit 32) (pairs_correlate v given_alike s ∙ rw (given_sum s h)) ∙ unit_back (entry x s) b
