-- The bar of a digit and the bar of a value, and what the code computes for them.
-- Assumes nothing.
use mathlib.Core.Path.{◌≡◌, refl, sym, ap, ◌∙◌}
use mathlib.Core.Bool.{Bool, true, false}
use Prim.Native.Nat.{ℕ, zero, suc, ◌-◌, ◌≤◌, ◌<◌, min}
use native.Mathlib.Omega.{arith}
use borrow.Author.Tests.{ltb-true, ltb-false, ne_eqb, le-ltb}
use lib.Bits.{bit_xor, xor_zero_r}
use lib.Dec.{eqb, ltb, leb, lit<}
use lib.IntN.{ℤ, pos, negsuc, neg_ℤ, ◌-ℤ◌}
use mir.Syntax.{w32}
use mir.Val.{SFits, bool_byte, to_z, of_z}
use Rattle.run.specs.Ranges.{between}
use Rattle.run.proofs.Ranges.{range_parts}
use Rattle.whole.specs.Bound.{Bounded}
use Rattle.whole.proofs.Bits.{minus_fits, minus_reads}
use Rattle.whole.proofs.Bound.{b_neg, b_range, range_low, range_high, fits_by}
use Rattle.sttd.specs.Rule.{bar_digit, digit_value}
use Rattle.sttd.specs.Outcome.{value_in}

-- ---- the bar of a digit
bar_bit : (d : ℕ) → d < 2 → bar_digit d ≡ 1 - d
unfolding bar_digit
bar_bit zero h = refl
bar_bit (suc zero) h = refl
bar_bit (suc (suc d)) h = absurd (let z : ⊥ = omega arith in z)

no_bit : (d : ℕ) → 2 ≤ d → (eqb d 0 ≡ false) × (eqb d 1 ≡ false)
no_bit d h = (ne_eqb d 0 (λ e. absurd (let z : ⊥ = omega arith in z)), ne_eqb d 1 (λ e. absurd (let z : ⊥ = omega arith in z)))

bar_other : (d : ℕ) → 2 ≤ d → bar_digit d ≡ d
unfolding bar_digit
bar_other d h = rw ((no_bit d h).0, (no_bit d h).1)

-- as the code has it: the lowest bit changes where the digit is below 2
pub bar_by_bit : (d : ℕ) → bit_xor d (bool_byte (ltb d 2)) ≡ bar_digit d
unfolding bar_digit
bar_by_bit zero = refl
bar_by_bit (suc zero) = refl
bar_by_bit (suc (suc d)) =
    let h : 2 ≤ suc (suc d) = omega arith in
    rw (le-ltb (suc (suc d)) 2 h) (xor_zero_r (suc (suc d)) ∙ sym (bar_other (suc (suc d)) h))

-- of a digit, the lowest bit changes and DTX is brought back
pub bar_by_cap : (d : ℕ) → d ≤ 2 → min (bit_xor d 1) 2 ≡ bar_digit d
unfolding bar_digit
bar_by_cap zero h = refl
bar_by_cap (suc zero) h = refl
bar_by_cap (suc (suc zero)) h = refl
bar_by_cap (suc (suc (suc d))) h = absurd (let z : ⊥ = omega arith in z)

pub bar_twice : (d : ℕ) → bar_digit (bar_digit d) ≡ d
bar_twice d = side (ltb d 2) refl
  where
    side : (b : Bool) → ltb d 2 ≡ b → bar_digit (bar_digit d) ≡ d
    side true t =
        let h : d < 2 = ltb-true _ _ t in
        let back : 1 - (1 - d) ≡ d = omega arith in
        ap bar_digit (bar_bit d h) ∙ bar_bit (1 - d) (omega arith) ∙ back
    side false t =
        let h : 2 ≤ d = ltb-false _ _ t in
        ap bar_digit (bar_other d h) ∙ bar_other d h

-- the value of a digit's bar is the negative of its value
pub bar_negates : (d : ℕ) → digit_value (bar_digit d) ≡ neg_ℤ (digit_value d)
unfolding bar_digit digit_value
bar_negates zero = refl
bar_negates (suc zero) = refl
bar_negates (suc (suc d)) =
    let h : 2 ≤ suc (suc d) = omega arith in
    rw (bar_other (suc (suc d)) h, (no_bit (suc (suc d)) h).0, (no_bit (suc (suc d)) h).1)

-- a bit's bar is a bit
pub bar_keeps_bit : (d : ℕ) → d ≤ 1 → bar_digit d ≤ 1
bar_keeps_bit d h = rw (bar_bit d (omega arith)) (omega arith)

-- and a digit's a digit
pub bar_keeps_digit : (d : ℕ) → leb d 2 ≡ true → leb (bar_digit d) 2 ≡ true
unfolding bar_digit
bar_keeps_digit zero h = refl
bar_keeps_digit (suc zero) h = refl
bar_keeps_digit (suc (suc d)) h = rw (bar_other (suc (suc d)) (omega arith)) h

-- ---- the bar of a value: a value in range and its bar fit their type, so the code's negation is the bar
module _ (v : ℤ) (ok : value_in v ≡ true) where
  small : Bounded 16 v
  small = let p = range_parts (negsuc 15) (pos 16) v ok in b_range 15 v p.0 p.1

  pub value_fits : SFits w32 v
  value_fits = fits_by small (lit< tt)

  pub negated_fits : SFits w32 (neg_ℤ v)
  negated_fits = fits_by (b_neg small) (lit< tt)

  pub bar_keeps_value : value_in (neg_ℤ v) ≡ true
  unfolding between
  bar_keeps_value = rw (range_low 15 (neg_ℤ v) (b_neg small), range_high 15 (neg_ℤ v) (b_neg small))

  pub minus_ok : SFits w32 (pos 0 -ℤ to_z w32 (of_z w32 v))
  minus_ok = minus_fits w32 small (lit< tt)

  pub minus_is : to_z w32 (of_z w32 (pos 0 -ℤ to_z w32 (of_z w32 v))) ≡ neg_ℤ v
  minus_is = (minus_reads w32 small (lit< tt)).is
