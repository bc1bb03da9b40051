-- Binary digits of a set: the lowest that is 1, the number without it, and the sixteen digits turned round.
-- Assumes nothing.
use mathlib.Core.Path.{◌≡◌, refl, sym, ap, ◌∙◌}
use mathlib.Core.Bool.{Bool, true, false, ◌&&◌, and-true, not}
use mathlib.Core.Logic.{◌⊎◌, inl, inr, ⊎_elim}
use Prim.Native.Nat.{ℕ, zero, suc, ◌+◌, ◌-◌, ◌*◌, ◌/◌, ◌%◌, ◌^◌, ◌≤◌, ◌<◌, min}
use native.Mathlib.Nat.{pow-suc}
use native.Mathlib.Omega.{arith}
use borrow.Author.Tests.{eqb-true, eqb-false, eq-eqb, ne_eqb, ltb-true, ltb-false}
use lib.Bits.{bit_and, and_step, and_self}
use lib.Count.{count_trailing_zeros, under}
use lib.Dec.{eqb, ltb}
use lib.Pow.{shr-shr, field, mod-mod-pow}
use Rattle.aich.specs.Rule.{offers}
use Rattle.desk.specs.Rule.{signature_at}

-- the lowest digit, and the others
digit_0 : (x : ℕ) → offers x 0 ≡ eqb (x % 2) 1
unfolding offers
digit_0 x = let e : x / 2 ^ 0 ≡ x = omega arith in ap (λ (y : ℕ). eqb (y % 2) 1) e

digit_suc : (x p : ℕ) → offers x (suc p) ≡ offers (x / 2) p
unfolding offers
digit_suc x p = ap (λ (y : ℕ). eqb (y % 2) 1) (sym (shr-shr x 1 p ∙ ap (λ (k : ℕ). x / 2 ^ k) (omega arith)))

half_small : (k x : ℕ) → x < 2 ^ suc k → x / 2 < 2 ^ k
half_small k x h = let e = pow-suc 2 k in omega arith

-- ---- the lowest that is 1

under_0 : (d t : ℕ) → d ≡ 0 → under d t ≡ suc t
under_0 d t e = rw e

under_1 : (d t : ℕ) → d ≡ 1 → under d t ≡ 0
under_1 d t e = rw e

parity : (x : ℕ) → (x % 2 ≡ 1) ⊎ (x % 2 ≡ 0)
parity x = side (eqb (x % 2) 1) refl
  where
    side : (b : Bool) → eqb (x % 2) 1 ≡ b → (x % 2 ≡ 1) ⊎ (x % 2 ≡ 0)
    side true e = inl (eqb-true (x % 2) 1 e)
    side false e = let n = eqb-false (x % 2) 1 e in inr (omega (arith, n))

odd_digit : (x : ℕ) → x % 2 ≡ 1 → offers x 0 ≡ true
odd_digit x o = digit_0 x ∙ eq-eqb (x % 2) 1 o

even_digit : (x : ℕ) → x % 2 ≡ 0 → offers x 0 ≡ false
even_digit x o = digit_0 x ∙ ne_eqb (x % 2) 1 (λ e. let z : ⊥ = omega arith in z)

-- one digit more is looked at
odd_lowest : (k x : ℕ) → x % 2 ≡ 1 → count_trailing_zeros (suc k) x ≡ 0
unfolding count_trailing_zeros
odd_lowest k x o = under_1 (x % 2) _ o

even_lowest : (k x : ℕ) → x % 2 ≡ 0 → count_trailing_zeros (suc k) x ≡ suc (count_trailing_zeros k (x / 2))
unfolding count_trailing_zeros
even_lowest k x o = under_0 (x % 2) _ o

pub lowest_small : (k j x : ℕ) → 0 < x → x < 2 ^ j → j ≤ k → count_trailing_zeros k x < j
lowest_small k zero x some h l = absurd (let z : ⊥ = omega arith in z)
lowest_small zero (suc j) x some h l = absurd (let z : ⊥ = omega arith in z)
lowest_small (suc k) (suc j) x some h l =
    ⊎_elim
    (λ o. let e = odd_lowest k x o in omega arith)
    (λ o. let e = even_lowest k x o in let m = lowest_small k j (x / 2) (omega arith) (half_small j x h) (omega arith) in omega arith)
    (parity x)

pub lowest_set : (k x : ℕ) → 0 < x → x < 2 ^ k → offers x (count_trailing_zeros k x) ≡ true
lowest_set zero x some h = absurd (let z : ⊥ = omega arith in z)
lowest_set (suc k) x some h =
    ⊎_elim
    (λ o. ap (offers x) (odd_lowest k x o) ∙ odd_digit x o)
    (λ o. ap (offers x) (even_lowest k x o) ∙ digit_suc x _ ∙ lowest_set k (x / 2) (omega arith) (half_small k x h))
    (parity x)

pub below_lowest : (k x p : ℕ) → p < count_trailing_zeros k x → offers x p ≡ false
unfolding count_trailing_zeros
below_lowest zero x p h = absurd (let z : ⊥ = omega arith in z)
below_lowest (suc k) x zero h =
    ⊎_elim (λ o. let e = odd_lowest k x o in absurd (let z : ⊥ = omega arith in z)) (λ o. even_digit x o) (parity x)
below_lowest (suc k) x (suc p) h =
    ⊎_elim
    (λ o. let e = odd_lowest k x o in absurd (let z : ⊥ = omega arith in z))
    (λ o. let e = even_lowest k x o in digit_suc x p ∙ below_lowest k (x / 2) p (omega arith))
    (parity x)

-- ---- a number without it: x & (x - 1)

eqb_suc : (a b : ℕ) → eqb (suc a) (suc b) ≡ eqb a b
eqb_suc a b = side (eqb a b) refl
  where
    side : (r : Bool) → eqb a b ≡ r → eqb (suc a) (suc b) ≡ r
    side true e = eq-eqb (suc a) (suc b) (ap suc (eqb-true a b e))
    side false e = let n = eqb-false a b e in ne_eqb (suc a) (suc b) (λ f. n (omega arith))

-- a number without its lowest digit
doubled : (y p : ℕ) → offers (y * 2) (suc p) ≡ offers y p
doubled y p = let e : y * 2 / 2 ≡ y = omega arith in digit_suc (y * 2) p ∙ ap (λ (z : ℕ). offers z p) e

odd_less : (x : ℕ) → x % 2 ≡ 1 → bit_and x (x - 1) ≡ x / 2 * 2
odd_less x o =
    let half : (x - 1) / 2 ≡ x / 2 = omega arith in
    let none : min (x % 2) ((x - 1) % 2) ≡ 0 = omega arith in
    let self : bit_and (x / 2) ((x - 1) / 2) ≡ x / 2 = ap (bit_and (x / 2)) half ∙ and_self (x / 2) in
    let step = and_step x (x - 1) in
    omega arith

even_less : (x : ℕ) → 0 < x → x % 2 ≡ 0 → bit_and x (x - 1) ≡ bit_and (x / 2) (x / 2 - 1) * 2
even_less x some o =
    let half : (x - 1) / 2 ≡ x / 2 - 1 = omega arith in
    let none : min (x % 2) ((x - 1) % 2) ≡ 0 = omega arith in
    let self : bit_and (x / 2) ((x - 1) / 2) ≡ bit_and (x / 2) (x / 2 - 1) = ap (bit_and (x / 2)) half in
    let step = and_step x (x - 1) in
    omega arith

pub without_lowest : (k x p : ℕ) → 0 < x → x < 2 ^ k → offers (bit_and x (x - 1)) p ≡ (offers x p && not (eqb p (count_trailing_zeros k x)))
without_lowest zero x p some h = absurd (let z : ⊥ = omega arith in z)
without_lowest (suc k) x zero some h =
    ⊎_elim
    (λ o.
    let even : x / 2 * 2 % 2 ≡ 0 = omega arith in
    ap (λ (y : ℕ). offers y 0) (odd_less x o) ∙ even_digit (x / 2 * 2) even ∙ sym (rw (odd_lowest k x o, odd_digit x o)))
    (λ o.
    let even : bit_and (x / 2) (x / 2 - 1) * 2 % 2 ≡ 0 = omega arith in
    ap (λ (y : ℕ). offers y 0) (even_less x some o) ∙ even_digit (bit_and (x / 2) (x / 2 - 1) * 2) even ∙ sym (rw (even_digit x o)))
    (parity x)
without_lowest (suc k) x (suc p) some h =
    ⊎_elim
    (λ o.
    ap (λ (y : ℕ). offers y (suc p)) (odd_less x o) ∙ doubled (x / 2) p ∙ sym (digit_suc x p)
    ∙ rw (odd_lowest k x o, ne_eqb (suc p) 0 (λ e. let z : ⊥ = omega arith in z)) (sym (and-true (offers x (suc p)))))
    (λ o.
    ap (λ (y : ℕ). offers y (suc p)) (even_less x some o) ∙ doubled (bit_and (x / 2) (x / 2 - 1)) p
    ∙ without_lowest k (x / 2) p (omega arith) (half_small k x h)
    ∙ rw (even_lowest k x o, digit_suc x p, eqb_suc p (count_trailing_zeros k (x / 2))))
    (parity x)

-- ---- sixteen digits turned round

-- the lowest sixteen, and those from the j-th on
digit_mod : (x i : ℕ) → i < 16 → offers (x % 65536) i ≡ offers x i
unfolding offers
digit_mod x i h =
    let e : 15 - i + 1 + i ≡ 16 = omega arith in
    let f : x % 65536 / 2 ^ i ≡ x / 2 ^ i % 2 ^ (15 - i + 1) = rw e at (field x (15 - i + 1) i) in
    ap (λ (y : ℕ). eqb (y % 2) 1) f ∙ ap (λ (y : ℕ). eqb y 1) (mod-mod-pow (x / 2 ^ i) (15 - i) 1)

digit_shift : (x j p : ℕ) → offers (x / 2 ^ j) p ≡ offers x (j + p)
unfolding offers
digit_shift x j p = ap (λ (y : ℕ). eqb (y % 2) 1) (shr-shr x j p)

-- a set beside itself
twice : (c i : ℕ) → c < 65536 → i < 32 → offers (65536 * c + c) i ≡ offers c (i % 16)
twice c i small h = side (ltb i 16) refl
  where
    side : (b : Bool) → ltb i 16 ≡ b → offers (65536 * c + c) i ≡ offers c (i % 16)
    side true e =
        let l = ltb-true i 16 e in
        let cut : (65536 * c + c) % 65536 ≡ c = omega arith in
        let same : i ≡ i % 16 = omega arith in
        sym (digit_mod (65536 * c + c) i l) ∙ ap (λ (y : ℕ). offers y i) cut ∙ ap (offers c) same
    side false e =
        let l = ltb-false i 16 e in
        let there : i ≡ 16 + (i - 16) = omega arith in
        let upper : (65536 * c + c) / 2 ^ 16 ≡ c = omega arith in
        let same : i - 16 ≡ i % 16 = omega arith in
        ap (offers (65536 * c + c)) there ∙ sym (digit_shift (65536 * c + c) 16 (i - 16)) ∙ ap (λ (y : ℕ). offers y (i - 16)) upper ∙ ap (offers c) same

pub turned_digit : (c last p : ℕ) → c < 65536 → last ≤ 15 → p < 16 → offers ((65536 * c + c) / 2 ^ (last + 1) % 65536) p ≡ offers c (signature_at last p)
unfolding signature_at
turned_digit c last p small fits h =
    digit_mod ((65536 * c + c) / 2 ^ (last + 1)) p h ∙ digit_shift (65536 * c + c) (last + 1) p ∙ twice c (last + 1 + p) small (omega arith)

-- 0 has none
pub none_set : (p : ℕ) → offers 0 p ≡ false
none_set zero = even_digit 0 refl
none_set (suc p) = digit_suc 0 p ∙ none_set p
