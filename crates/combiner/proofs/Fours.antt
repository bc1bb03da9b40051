-- Going through 32 components by the pairs of symbols that they belong to, four at a time.
-- Assumes nothing.
use mathlib.Core.Path.{◌≡◌, refl, subst}
use mathlib.Core.Bool.{Bool, true, false}
use Prim.Native.Nat.{ℕ, ◌+◌, ◌*◌, ◌/◌, ◌%◌, ◌<◌}
use native.Mathlib.Omega.{arith}
use borrow.Author.Tests.{eqb-true, eqb-false}
use lib.Dec.{eqb}

-- what holds at the four components of each pair holds at every component
pub by_fours : (P : ℕ → Type 0) → ((m : ℕ) → m < 8 → P (4 * m)) → ((m : ℕ) → m < 8 → P (4 * m + 1)) → ((m : ℕ) → m < 8 → P (4 * m + 2))
    → ((m : ℕ) → m < 8 → P (4 * m + 3)) → (j : ℕ) → j < 32 → P j
by_fours P p q r s j h = side (eqb (j % 4) 0) (eqb (j % 4) 1) (eqb (j % 4) 2) refl refl refl
  where
    at : (i : ℕ) → j % 4 ≡ i → P (4 * (j / 4) + i) → P j
    at i e t = let is : 4 * (j / 4) + i ≡ j = omega arith in subst P is t

    side : (a b c : Bool) → eqb (j % 4) 0 ≡ a → eqb (j % 4) 1 ≡ b → eqb (j % 4) 2 ≡ c → P j
    side true b c e f g =
        let z : j % 4 ≡ 0 = eqb-true _ _ e in
        let is : 4 * (j / 4) ≡ j = omega arith in
        subst P is (p (j / 4) (omega arith))
    side false true c e f g = at 1 (eqb-true _ _ f) (q (j / 4) (omega arith))
    side false false true e f g = at 2 (eqb-true _ _ g) (r (j / 4) (omega arith))
    side false false false e f g =
        let n0 : j % 4 ≡ 0 → ⊥ = eqb-false _ _ e in
        let n1 : j % 4 ≡ 1 → ⊥ = eqb-false _ _ f in
        let n2 : j % 4 ≡ 2 → ⊥ = eqb-false _ _ g in
        let z : j % 4 ≡ 3 = omega arith in
        at 3 z (s (j / 4) (omega arith))
