-- Folding leaves the sums by parity. Parity goes by blocks of bits: where both numbers have a bit above, it changes, else it is that of what stands below. So one sum over
-- two halves is one over their sums or over their differences, half as long; the law is an induction on n.
-- Assumes nothing.
use mathlib.Core.Path.{◌≡◌, refl, sym, ap, ap₂, ◌∙◌}
use mathlib.Core.Bool.{Bool, true, false, cond}
use mathlib.Core.List.{List}
use Prim.Native.Nat.{ℕ, zero, suc, ◌+◌, ◌*◌, ◌-◌, ◌/◌, ◌%◌, ◌^◌, ◌<◌}
use native.Mathlib.Nat.{two-pow-succ, not-suc-le-zero, le_of_suc-le-suc}
use native.Mathlib.Omega.{arith}
use borrow.Author.Tests.{eqb-true, eqb-false, eq-eqb, ne_eqb, ltb-true, ltb-false}
use lib.Bits.{bit_and, and_block, and_lt}
use lib.Count.{ones, ones_cat}
use lib.Dec.{eqb, ltb}
use lib.ListN.{length, get_or, length-append, get_or-append}
use lib.Seq.{get_or-append-add}
use lib.IntN.{ℤ, pos, negsuc, ◌+ℤ◌, ◌-ℤ◌, ◌*ℤ◌, +ℤ_idl, *ℤ_comm}
use Rattle.run.proofs.Table.{tab_length, tab_at, tab_is}
use Rattle.whole.specs.Sum.{sum}
use Rattle.whole.proofs.Laws.{distrib_r, factors, one-*ℤ, minus-one-*ℤ}
use Rattle.whole.proofs.Sum.{sum_same, sum_plus, sum_join}
use Rattle.signature.specs.Rule.{is_plus, sign}
use Rattle.signature.specs.Folding.{parity, parity_sum, sums, differences, folds, FoldsAreSums}

abbrev pub entry : List ℤ → ℕ → ℤ
entry x k = get_or x k (pos 0)

-- ---- parity

-- the sign of a count of bits
count_sign : ℕ → ℤ
count_sign c = cond (eqb (c % 2) 0) (pos 1) (negsuc 0)

parity_is : (s k : ℕ) → parity s k ≡ count_sign (ones (bit_and s k))
unfolding sign is_plus count_sign
parity_is s k = let half : 2 * k / 2 ≡ k = omega arith in rw half

sign_sum : (a b : ℕ) → count_sign (a + b) ≡ count_sign a *ℤ count_sign b
unfolding count_sign
sign_sum a b = side (eqb (a % 2) 0) (eqb (b % 2) 0) refl refl
  where
    side : (p q : Bool) → eqb (a % 2) 0 ≡ p → eqb (b % 2) 0 ≡ q → count_sign (a + b) ≡ cond p (pos 1) (negsuc 0) *ℤ cond q (pos 1) (negsuc 0)
    side true true e f = rw (eq-eqb ((a + b) % 2) 0 (omega (arith, eqb-true (a % 2) 0 e, eqb-true (b % 2) 0 f)))
    side true false e f = rw (ne_eqb ((a + b) % 2) 0 (λ z. omega (arith, eqb-true (a % 2) 0 e, eqb-false (b % 2) 0 f)))
    side false true e f = rw (ne_eqb ((a + b) % 2) 0 (λ z. omega (arith, eqb-false (a % 2) 0 e, eqb-true (b % 2) 0 f)))
    side false false e f = rw (eq-eqb ((a + b) % 2) 0 (omega (arith, eqb-false (a % 2) 0 e, eqb-false (b % 2) 0 f)))

module _ (n a s k : ℕ) (h : s < 2 ^ n) (l : k < 2 ^ n) where
  -- block by block
  parity_block : (b : ℕ) → parity (a * 2 ^ n + s) (b * 2 ^ n + k) ≡ parity a b *ℤ parity s k
  parity_block b =
      parity_is (a * 2 ^ n + s) (b * 2 ^ n + k)
      ∙ ap (λ (m : ℕ). count_sign (ones m)) (and_block n a b s k h l)
      ∙ ap count_sign (ones_cat n (bit_and a b) (bit_and s k) (and_lt n s k h l))
      ∙ sign_sum (ones (bit_and a b)) (ones (bit_and s k))
      ∙ sym (ap₂ (λ (y z : ℤ). y *ℤ z) (parity_is a b) (parity_is s k))

  parity_low : parity (a * 2 ^ n + s) k ≡ parity a 0 *ℤ parity s k
  parity_low = let front : 0 * 2 ^ n + k ≡ k = omega arith in rw front at (parity_block 0)

  parity_high : parity (a * 2 ^ n + s) (2 ^ n + k) ≡ parity a 1 *ℤ parity s k
  parity_high = let one : 1 * 2 ^ n + k ≡ 2 ^ n + k = omega arith in rw one at (parity_block 1)

-- ---- sums and differences of halves

pub sums_length : (h : ℕ) (x : List ℤ) → length (sums h x) ≡ h
unfolding sums
sums_length h x = tab_length h _

pub differences_length : (h : ℕ) (x : List ℤ) → length (differences h x) ≡ h
unfolding differences
differences_length h x = tab_length h _

pub sums_at : (h : ℕ) (x : List ℤ) (k : ℕ) → k < h → entry (sums h x) k ≡ entry x k +ℤ entry x (h + k)
unfolding sums
sums_at h x k l = tab_at h (λ (i : ℕ). entry x i +ℤ entry x (h + i)) k (pos 0) l

pub differences_at : (h : ℕ) (x : List ℤ) (k : ℕ) → k < h → entry (differences h x) k ≡ entry x k -ℤ entry x (h + k)
unfolding differences
differences_at h x k l = tab_at h (λ (i : ℕ). entry x i -ℤ entry x (h + i)) k (pos 0) l

-- ---- a sum by parity over two halves

gather : (x y u v p : ℤ) → x *ℤ (u *ℤ p) +ℤ y *ℤ (v *ℤ p) ≡ (u *ℤ x +ℤ v *ℤ y) *ℤ p
gather x y u v p = simp (distrib_r, factors)

module _ (n : ℕ) (x : List ℤ) (s : ℕ) (h : s < 2 ^ n) where
  -- a is the place's bit above
  halves : (a : ℕ) → parity_sum (suc n) x (a * 2 ^ n + s)
      ≡ sum (2 ^ n) (λ (k : ℕ). (parity a 0 *ℤ entry x k +ℤ parity a 1 *ℤ entry x (2 ^ n + k)) *ℤ parity s k)
  unfolding parity_sum
  halves a =
      let term : ℕ → ℤ = λ k. entry x k *ℤ parity (a * 2 ^ n + s) k in
      ap (λ (m : ℕ). sum m term) (two-pow-succ n)
      ∙ sum_join (2 ^ n) (2 ^ n) term
      ∙ sym (sum_plus (2 ^ n) term (λ k. term (2 ^ n + k)))
      ∙ sum_same (2 ^ n) _ _
      (λ k l. rw (parity_low n a s k h l, parity_high n a s k h l) (gather (entry x k) (entry x (2 ^ n + k)) (parity a 0) (parity a 1) (parity s k)))

  low_place : parity_sum (suc n) x s ≡ parity_sum n (sums (2 ^ n) x) s
  unfolding parity_sum sign is_plus ones
  low_place =
      let front : 0 * 2 ^ n + s ≡ s = omega arith in
      rw front at (halves 0)
      ∙ sum_same (2 ^ n) _ _ (λ k l. rw (one-*ℤ (entry x k), one-*ℤ (entry x (2 ^ n + k)), sums_at (2 ^ n) x k l))

  high_place : parity_sum (suc n) x (2 ^ n + s) ≡ parity_sum n (differences (2 ^ n) x) s
  unfolding parity_sum sign is_plus ones
  high_place =
      let one : 1 * 2 ^ n + s ≡ 2 ^ n + s = omega arith in
      rw one at (halves 1)
      ∙ sum_same (2 ^ n) _ _ (λ k l. rw (one-*ℤ (entry x k), minus-one-*ℤ (entry x (2 ^ n + k)), differences_at (2 ^ n) x k l))

-- ---- folding

pub folds_length : (n : ℕ) (x : List ℤ) → length x ≡ 2 ^ n → length (folds n x) ≡ 2 ^ n
unfolding folds
folds_length zero x e = e
folds_length (suc n) x e =
    length-append (folds n (sums (2 ^ n) x)) (folds n (differences (2 ^ n) x))
    ∙ ap₂ (λ (a b : ℕ). a + b) (folds_length n (sums (2 ^ n) x) (sums_length (2 ^ n) x)) (folds_length n (differences (2 ^ n) x) (differences_length (2 ^ n) x))
    ∙ sym (two-pow-succ n)

module _ (n : ℕ) (x : List ℤ) (s : ℕ) where
  first_length : length (folds n (sums (2 ^ n) x)) ≡ 2 ^ n
  first_length = folds_length n (sums (2 ^ n) x) (sums_length (2 ^ n) x)

  -- the lower half is what the sums leave, the upper half what the differences leave
  pub folds_low : s < 2 ^ n → entry (folds (suc n) x) s ≡ entry (folds n (sums (2 ^ n) x)) s
  unfolding folds
  folds_low h = get_or-append (folds n (sums (2 ^ n) x)) (folds n (differences (2 ^ n) x)) (pos 0) s (rw first_length h)

  pub folds_high : entry (folds (suc n) x) (2 ^ n + s) ≡ entry (folds n (differences (2 ^ n) x)) s
  unfolding folds
  folds_high =
      rw first_length at (get_or-append-add (folds n (sums (2 ^ n) x)) (folds n (differences (2 ^ n) x)) s (pos 0))

-- one number is its own sum
one_left : (x : List ℤ) (s : ℕ) → s < 1 → entry x s ≡ parity_sum 0 x s
unfolding parity_sum sum sign is_plus ones
one_left x zero h = sym (+ℤ_idl (entry x 0 *ℤ pos 1) ∙ *ℤ_comm (entry x 0) (pos 1) ∙ one-*ℤ (entry x 0))
one_left x (suc s) h = absurd (not-suc-le-zero (le_of_suc-le-suc h))

-- what holds of the halves' sums and differences holds of the run
one_level : (n : ℕ) → ((x : List ℤ) (s : ℕ) → s < 2 ^ n → entry (folds n x) s ≡ parity_sum n x s)
    → (x : List ℤ) (s : ℕ) → s < 2 ^ suc n → entry (folds (suc n) x) s ≡ parity_sum (suc n) x s
one_level n below x s h = side (ltb s (2 ^ n)) refl
  where
    side : (b : Bool) → ltb s (2 ^ n) ≡ b → entry (folds (suc n) x) s ≡ parity_sum (suc n) x s
    side true e =
        let l = ltb-true s (2 ^ n) e in
        folds_low n x s l ∙ below (sums (2 ^ n) x) s l ∙ sym (low_place n x s l)
    side false e =
        let l : s - 2 ^ n < 2 ^ n = omega (arith, two-pow-succ n, ltb-false s (2 ^ n) e) in
        let is : 2 ^ n + (s - 2 ^ n) ≡ s = omega (arith, ltb-false s (2 ^ n) e) in
        rw is at (folds_high n x (s - 2 ^ n) ∙ below (differences (2 ^ n) x) (s - 2 ^ n) l ∙ sym (high_place n x (s - 2 ^ n) l))

pub folds_at : (n : ℕ) (x : List ℤ) (s : ℕ) → s < 2 ^ n → entry (folds n x) s ≡ parity_sum n x s
unfolding folds
folds_at zero x s h = one_left x s h
folds_at (suc n) x s h = one_level n (folds_at n) x s h

pub folds_are_sums : FoldsAreSums
folds_are_sums n x e = tab_is (pos 0) (folds n x) (2 ^ n) (parity_sum n x) (folds_length n x e) (folds_at n x)
