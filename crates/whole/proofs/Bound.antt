-- Bounds on whole numbers. A sum's and a product's bound is the sum and the product of the parts' bounds, which computes where those are
-- numerals, so that a value fits its width by `fits_by b (lit< tt)`.
-- Assumes nothing.
use mathlib.Core.Path.{◌≡◌, refl, sym, ap, ap₂, ◌∙◌, subst}
use mathlib.Core.Bool.{Bool, true, false, cond}
use Prim.Native.Nat.{ℕ, zero, suc, ◌+◌, ◌*◌, ◌-◌, ◌≤◌, ◌<◌, ◌^◌}
use native.Mathlib.Nat.{mul-le-mul, le_trans, le_refl, lt_of_le_of_lt}
use native.Mathlib.Omega.{arith}
use lib.Dec.{T, ltb, leb, leb→le}
use lib.IntN.{ℤ, pos, negsuc, neg_ℤ, nat_abs, sub_ℕ, ◌+ℤ◌, ◌-ℤ◌, ◌*ℤ◌, +ℤ_idl, +ℤ_invr, -ℤ-+ℤ_cancel}
use lib.Signed.{mag, le_z}
use mir.Syntax.{Width}
use mir.Val.{SFits, hbits}
use borrow.Author.Tests.{ltb-true, leb-true, le-leb}
use Rattle.whole.specs.Bound.{Bounded}
use Rattle.whole.proofs.Laws.{distrib_r, neg-*ℤ}

abs_neg : (z : ℤ) → nat_abs (neg_ℤ z) ≡ nat_abs z
abs_neg (pos zero) = refl
abs_neg (pos (suc n)) = refl
abs_neg (negsuc n) = refl

abs_sub : (a b : ℕ) → nat_abs (sub_ℕ a b) ≤ a + b
abs_sub a b = go (ltb a b) refl
  where
    go : (t : Bool) → ltb a b ≡ t → nat_abs (cond t (negsuc (b - suc a)) (pos (a - b))) ≤ a + b
    go true e = omega (arith, ltb-true a b e)
    go false e = omega arith

abs_sum : (x y : ℤ) → nat_abs (x +ℤ y) ≤ nat_abs x + nat_abs y
abs_sum (pos a) (pos b) = le_refl (a + b)
abs_sum (pos a) (negsuc b) = abs_sub a (suc b)
abs_sum (negsuc a) (pos b) = omega (arith, abs_sub b (suc a))
abs_sum (negsuc a) (negsuc b) = omega arith

abs_product : (x y : ℤ) → nat_abs (x *ℤ y) ≡ nat_abs x * nat_abs y
abs_product (pos a) (pos b) = refl
abs_product (pos a) (negsuc b) = abs_neg (pos (a * suc b))
abs_product (negsuc a) (pos b) = abs_neg (pos (suc a * b))
abs_product (negsuc a) (negsuc b) = refl

pub b_sum : {A B : ℕ} {x y : ℤ} → Bounded A x → Bounded B y → Bounded (A + B) (x +ℤ y)
b_sum {A} {B} {x} {y} p q = record { size = omega (arith, abs_sum x y, p.size, q.size) }

pub b_neg : {A : ℕ} {x : ℤ} → Bounded A x → Bounded A (neg_ℤ x)
b_neg {A} {x} p = record { size = subst (λ n. n ≤ A) (sym (abs_neg x)) p.size }

pub b_diff : {A B : ℕ} {x y : ℤ} → Bounded A x → Bounded B y → Bounded (A + B) (x -ℤ y)
b_diff p q = b_sum p (b_neg q)

pub b_product : {A B : ℕ} {x y : ℤ} → Bounded A x → Bounded B y → Bounded (A * B) (x *ℤ y)
b_product {A} {B} {x} {y} p q = record { size = subst (λ n. n ≤ A * B) (sym (abs_product x y)) (mul-le-mul p.size q.size) }

-- a factor other than 0 cancels
abs_zero : (z : ℤ) → nat_abs z ≡ 0 → z ≡ pos 0
abs_zero (pos n) e = ap pos e
abs_zero (negsuc n) e = absurd (let z : ⊥ = omega arith in z)

pub times_cancel : (n : ℕ) (x y : ℤ) → 0 < n → x *ℤ pos n ≡ y *ℤ pos n → x ≡ y
times_cancel n x y h e =
    let gap : (x -ℤ y) *ℤ pos n ≡ pos 0 = distrib_r x (neg_ℤ y) (pos n) ∙ ap₂ (λ a b. a +ℤ b) e (neg-*ℤ y (pos n)) ∙ +ℤ_invr (y *ℤ pos n) in
    let size : nat_abs (x -ℤ y) * n ≡ 0 = sym (abs_product (x -ℤ y) (pos n)) ∙ ap nat_abs gap in
    let none : nat_abs (x -ℤ y) ≡ 0 = no_factor (nat_abs (x -ℤ y)) n h size in
    sym (-ℤ-+ℤ_cancel x y) ∙ ap (λ z. z +ℤ y) (abs_zero (x -ℤ y) none) ∙ +ℤ_idl y
  where
    no_factor : (a b : ℕ) → 0 < b → a * b ≡ 0 → a ≡ 0
    no_factor zero b l q = refl
    no_factor (suc a) zero l q = absurd (let z : ⊥ = omega arith in z)
    no_factor (suc a) (suc b) l q = absurd (let z : ⊥ = omega arith in z)

pub b_lit : {A : ℕ} {x : ℤ} → T (leb (nat_abs x) A) → Bounded A x
b_lit {A} {x} t = record { size = leb→le (nat_abs x) A t }

pub b_weaken : {A B : ℕ} {x : ℤ} → A ≤ B → Bounded A x → Bounded B x
b_weaken l p = record { size = le_trans p.size l }

mag_le : (z : ℤ) → mag z ≤ nat_abs z
mag_le (pos n) = le_refl n
mag_le (negsuc n) = omega arith

-- what is bounded below half the width's power fits: `fits_by b (lit< tt)` at a numeral
pub fits_by : {w : Width} {A : ℕ} {x : ℤ} → Bounded A x → A < 2 ^ hbits w → SFits w x
fits_by {w} {A} {x} p l = record { sfits = lt_of_le_of_lt (mag_le x) (lt_of_le_of_lt p.size l) }

-- -B to B as the tests of a range say it, at B = n + 1; and back
pub b_range : (n : ℕ) (z : ℤ) → le_z (negsuc n) z ≡ true → le_z z (pos (suc n)) ≡ true → Bounded (suc n) z
b_range n (pos m) e f = record { size = leb-true m (suc n) f }
b_range n (negsuc m) e f = record { size = let h : m ≤ n = leb-true m n e in omega arith }

pub range_low : (n : ℕ) (z : ℤ) → Bounded (suc n) z → le_z (negsuc n) z ≡ true
range_low n (pos m) b = refl
range_low n (negsuc m) b = le-leb m n (omega (arith, b.size))

pub range_high : (n : ℕ) (z : ℤ) → Bounded (suc n) z → le_z z (pos (suc n)) ≡ true
range_high n (pos m) b = le-leb m (suc n) b.size
range_high n (negsuc m) b = refl
