-- What the tests of a range say, in the code's order: below it, above it, or in it.
-- Assumes nothing.
use mathlib.Core.Path.{◌≡◌, refl, ◌∙◌}
use mathlib.Core.Bool.{Bool, true, false, ◌&&◌}
use Prim.Native.Nat.{ℕ}
use native.Mathlib.Omega.{arith}
use lib.IntN.{ℤ, pos, negsuc}
use lib.Signed.{le_z, lt_z}
use borrow.Author.Tests.{ltb-true, ltb-false, lt-leb, le-leb}
use Rattle.run.specs.Ranges.{between}

-- a test that holds and its converse
below_le_z : (x y : ℤ) → lt_z x y ≡ true → le_z y x ≡ false
below_le_z (pos a) (pos b) e = lt-leb b a (ltb-true a b e)
below_le_z (pos a) (negsuc b) e = absurd (let z : ◌≡◌ {A = ℕ} 0 1 = cc in omega arith)
below_le_z (negsuc a) (pos b) e = refl
below_le_z (negsuc a) (negsuc b) e = lt-leb a b (ltb-true b a e)

above_le_z : (x y : ℤ) → lt_z x y ≡ false → le_z y x ≡ true
above_le_z (pos a) (pos b) e = le-leb b a (ltb-false a b e)
above_le_z (pos a) (negsuc b) e = refl
above_le_z (negsuc a) (pos b) e = absurd (let z : ◌≡◌ {A = ℕ} 0 1 = cc in omega arith)
above_le_z (negsuc a) (negsuc b) e = le-leb a b (ltb-false b a e)

and_false : (a : Bool) → (a && false) ≡ false
and_false true = refl
and_false false = refl

module _ (low high z : ℤ) where
  pub below_range : lt_z z low ≡ true → between low high z ≡ false
  unfolding between
  below_range e = rw (below_le_z z low e)

  pub above_range : lt_z high z ≡ true → between low high z ≡ false
  unfolding between
  above_range e = rw (below_le_z high z e) (and_false (le_z low z))

  -- not below it: it is the upper bound that decides
  pub from_low : lt_z z low ≡ false → between low high z ≡ le_z z high
  unfolding between
  from_low e = rw (above_le_z z low e)

  pub in_range_lem : lt_z z low ≡ false → lt_z high z ≡ false → between low high z ≡ true
  in_range_lem e f = from_low e ∙ above_le_z high z f

  pub range_parts : between low high z ≡ true → (le_z low z ≡ true) × (le_z z high ≡ true)
  unfolding between
  range_parts e = parts (le_z low z) (le_z z high) e
    where
      parts : (a b : Bool) → (a && b) ≡ true → (a ≡ true) × (b ≡ true)
      parts true b h = (refl, h)
      parts false b h = absurd (let q : ◌≡◌ {A = ℕ} 0 1 = cc in omega arith)

  pub range_holds : le_z low z ≡ true → le_z z high ≡ true → between low high z ≡ true
  unfolding between
  range_holds e f = rw (e, f)
