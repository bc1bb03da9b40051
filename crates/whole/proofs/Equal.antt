-- The test for equality says what it should, at whole numbers and at the bits that stand for them.
-- Assumes nothing.
use mathlib.Core.Path.{◌≡◌, refl, sym, ◌∙◌, ap, subst}
use mathlib.Core.Bool.{Bool, true, false}
use Prim.Native.Nat.{ℕ}
use native.Mathlib.Omega.{arith}
use lib.Dec.{eqb}
use lib.IntN.{ℤ, pos, negsuc}
use borrow.Author.Tests.{eqb-true, eqb-false, eq-eqb}
use mir.Syntax.{Width}
use mir.Val.{SFits, to_z, of_z}
use mir.Facts.{to_z-of_z}
use Rattle.whole.specs.Equal.{eq_z}

pub eq_z_true : (x y : ℤ) → eq_z x y ≡ true → x ≡ y
eq_z_true (pos a) (pos b) e = ap pos (eqb-true a b e)
eq_z_true (pos a) (negsuc b) e = absurd (let z : ◌≡◌ {A = ℕ} 0 1 = cc in omega arith)
eq_z_true (negsuc a) (pos b) e = absurd (let z : ◌≡◌ {A = ℕ} 0 1 = cc in omega arith)
eq_z_true (negsuc a) (negsuc b) e = ap negsuc (eqb-true a b e)

eq_z_refl : (x : ℤ) → eq_z x x ≡ true
eq_z_refl (pos a) = eq-eqb a a refl
eq_z_refl (negsuc a) = eq-eqb a a refl

pub eq_eq_z : (x y : ℤ) → x ≡ y → eq_z x y ≡ true
eq_eq_z x y e = subst (λ (z : ℤ). eq_z x z ≡ true) e (eq_z_refl x)

pub ne_eq_z : (x y : ℤ) → (x ≡ y → ⊥) → eq_z x y ≡ false
ne_eq_z x y h = side (eq_z x y) refl
  where
    side : (b : Bool) → eq_z x y ≡ b → b ≡ false
    side true e = absurd (h (eq_z_true x y e))
    side false e = refl

-- numbers with the same bits are one
pub same_bits : {w : Width} {x y : ℤ} → SFits w x → SFits w y → of_z w x ≡ of_z w y → x ≡ y
same_bits {w} f g e = sym (to_z-of_z f) ∙ ap (to_z w) e ∙ to_z-of_z g

-- numbers with other bits are others: w's bits say whether two numbers are one
pub other_bits : (w : Width) (x y : ℤ) → (of_z w x ≡ of_z w y → ⊥) → eq_z x y ≡ false
other_bits w x y h = ne_eq_z x y (λ e. h (ap (of_z w) e))

pub bits_eq_z : {w : Width} {x y : ℤ} → SFits w x → SFits w y → eqb (of_z w x) (of_z w y) ≡ eq_z x y
bits_eq_z {w} {x} {y} f g = side (eqb (of_z w x) (of_z w y)) refl
  where
    side : (b : Bool) → eqb (of_z w x) (of_z w y) ≡ b → b ≡ eq_z x y
    side true e = sym (eq_eq_z x y (same_bits f g (eqb-true _ _ e)))
    side false e = sym (other_bits w x y (eqb-false _ _ e))
