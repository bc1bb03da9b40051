-- Four foldings are the sums over all signatures: a run that is folded side by side is one whose halves are folded, its places in another order. So the law of folded runs
-- (`folds_at` of `signature`) gives these sums too.
-- Assumes nothing.
use mathlib.Core.Path.{◌≡◌, refl, sym, ap, ap₂, ◌∙◌}
use mathlib.Core.Bool.{Bool, true, false, cond}
use mathlib.Core.List.{List, [], ◌∷◌}
use Prim.Native.Nat.{ℕ, zero, suc, ◌+◌, ◌*◌, ◌-◌, ◌/◌, ◌%◌, ◌≤◌, ◌<◌, ◌^◌}
use native.Mathlib.Nat.{two-pow-succ, pow-suc, suc-mul, mul-add, add-mul, mul_assoc, mul_left_comm, mul-le-mul_right, not-suc-le-zero, le_of_suc-le-suc}
use native.Mathlib.Omega.{arith}
use borrow.Author.Tests.{ltb-true, ltb-false}
use lib.Dec.{eqb, ltb}
use lib.ListN.{length, get_or}
use lib.IntN.{ℤ, pos, ◌+ℤ◌, ◌-ℤ◌, ◌*ℤ◌}
use mir.Syntax.{Width}
use mir.Val.{SFits, hbits, to_z, of_z}
use Rattle.run.specs.Table.{tab}
use Rattle.run.proofs.Table.{tab_length, tab_at, tab_is, tab_same}
use Rattle.whole.specs.Bound.{Bounded}
use Rattle.whole.proofs.Bound.{b_sum, b_diff, b_weaken}
use Rattle.whole.proofs.Bits.{Reads, r_in, r_sum, fits_diff, r_diff}
use Rattle.whole.proofs.Ring.{solve, quoted, ring}
use Rattle.whole.proofs.Sum.{sum_same}
use Rattle.signature.specs.Rule.{sign}
use Rattle.signature.specs.Folding.{parity_sum, sums, differences, folds}
use Rattle.signature.proofs.Signs.{sign_swap}
use Rattle.signature.proofs.Folding.{folds_low, folds_high, folds_at}
use Rattle.aich.specs.Rule.{value_at}
use Rattle.aich.specs.Method.{Sixteen, fold_at, folded, half_of}
use Rattle.aich.proofs.Laws.{entry}

-- ---- one folding

pub folded_length : (x : List ℤ) → length (folded x) ≡ 16
unfolding folded
folded_length x = tab_length 16 (fold_at (entry x))

folded_at : (x : List ℤ) (k : ℕ) → k < 16 → entry (folded x) k ≡ fold_at (entry x) k
unfolding folded
folded_at x k h = tab_at 16 (fold_at (entry x)) k (pos 0) h

module _ (x : List ℤ) (i : ℕ) (h : i < 8) where
  even : entry x i +ℤ entry x (i + 8) ≡ entry (folded x) (2 * i)
  unfolding fold_at
  even =
      let r : 2 * i % 2 ≡ 0 = omega arith in
      let q : 2 * i / 2 ≡ i = omega arith in
      sym (folded_at x (2 * i) (omega arith) ∙ rw (r, q))

  odd : entry x i -ℤ entry x (i + 8) ≡ entry (folded x) (2 * i + 1)
  unfolding fold_at
  odd =
      let r : (2 * i + 1) % 2 ≡ 1 = omega arith in
      let q : (2 * i + 1) / 2 ≡ i = omega arith in
      sym (folded_at x (2 * i + 1) (omega arith) ∙ rw (r, q))

-- ---- four foldings

foldings : ℕ → List ℤ → List ℤ
foldings zero x = x
foldings (suc j) x = foldings j (folded x)

-- every w-th entry from i on, 2^j of them
spread : ℕ → ℕ → ℕ → List ℤ → List ℤ
spread j w i x = tab (2 ^ j) (λ (a : ℕ). entry x (a * w + i))

spread_at : (j w i : ℕ) (x : List ℤ) (a : ℕ) → a < 2 ^ j → entry (spread j w i x) a ≡ entry x (a * w + i)
unfolding spread
spread_at j w i x a h = tab_at (2 ^ j) (λ (b : ℕ). entry x (b * w + i)) a (pos 0) h

-- half of a run of sixteen is 2^j entries, w apart
module _ (j w i : ℕ) (x : List ℤ) (all : 2 ^ j * w ≡ 8) (l : i < w) where
  module _ (a : ℕ) (h : a < 2 ^ j) where
    place : a * w + i < 8
    place = omega (arith, suc-mul a w, mul-le-mul_right w h)

    upper : (2 ^ j + a) * w + i ≡ a * w + i + 8
    upper = omega (arith, add-mul (2 ^ j) a w)

    wide : a * (2 * w) + 2 * i ≡ 2 * (a * w + i)
    wide = omega (arith, mul_left_comm a 2 w)

    lower_is : entry (spread (suc j) w i x) a ≡ entry x (a * w + i)
    lower_is = spread_at (suc j) w i x a (omega (arith, two-pow-succ j))

    upper_is : entry (spread (suc j) w i x) (2 ^ j + a) ≡ entry x (a * w + i + 8)
    upper_is = spread_at (suc j) w i x (2 ^ j + a) (omega (arith, two-pow-succ j)) ∙ ap (entry x) upper

  -- what is folded side by side has the sums of the halves at even places, and the differences at odd ones
  even_spread : sums (2 ^ j) (spread (suc j) w i x) ≡ spread j (2 * w) (2 * i) (folded x)
  unfolding sums spread
  even_spread =
      tab_same (2 ^ j) _ _ (λ a h. rw (lower_is a h, upper_is a h, wide a h) (even x (a * w + i) (place a h)))

  odd_spread : differences (2 ^ j) (spread (suc j) w i x) ≡ spread j (2 * w) (2 * i + 1) (folded x)
  unfolding differences spread
  odd_spread =
      tab_same (2 ^ j) _ _
      (λ a h.
      let is : a * (2 * w) + (2 * i + 1) ≡ 2 * (a * w + i) + 1 = omega (arith, wide a h) in
      rw (lower_is a h, upper_is a h, is) (odd x (a * w + i) (place a h)))

-- one folding more
module _ (j w i : ℕ) (x : List ℤ) (all : 2 ^ suc j * w ≡ 16) (l : i < w)
    (below : (i : ℕ) (s : ℕ) → i < 2 * w → s < 2 ^ j → entry (foldings j (folded x)) (i * 2 ^ j + s) ≡ entry (folds j (spread j (2 * w) i (folded x))) s) where
  half : 2 ^ j * w ≡ 8
  half = omega (arith, all, ap (λ (m : ℕ). m * w) (two-pow-succ j) ∙ add-mul (2 ^ j) (2 ^ j) w)

  twice : i * 2 ^ suc j ≡ 2 * (i * 2 ^ j)
  twice = omega (arith, ap (λ (m : ℕ). i * m) (two-pow-succ j) ∙ mul-add i (2 ^ j) (2 ^ j))

  sums_place : (s : ℕ) → s < 2 ^ j → entry (foldings j (folded x)) (i * 2 ^ suc j + s) ≡ entry (folds (suc j) (spread (suc j) w i x)) s
  sums_place s h =
      let is : i * 2 ^ suc j + s ≡ 2 * i * 2 ^ j + s = omega (arith, twice, mul_assoc 2 i (2 ^ j)) in
      rw is (below (2 * i) s (omega arith) h)
      ∙ sym (folds_low j (spread (suc j) w i x) s h ∙ ap (λ (y : List ℤ). entry (folds j y) s) (even_spread j w i x half l))

  differences_place : (s : ℕ) → s < 2 ^ j → entry (foldings j (folded x)) (i * 2 ^ suc j + (2 ^ j + s)) ≡ entry (folds (suc j) (spread (suc j) w i x)) (2 ^ j + s)
  differences_place s h =
      let is : i * 2 ^ suc j + (2 ^ j + s) ≡ (2 * i + 1) * 2 ^ j + s = omega (arith, twice, mul_assoc 2 i (2 ^ j), add-mul (2 * i) 1 (2 ^ j)) in
      rw is (below (2 * i + 1) s (omega arith) h)
      ∙ sym (folds_high j (spread (suc j) w i x) s ∙ ap (λ (y : List ℤ). entry (folds j y) s) (odd_spread j w i x half l))

  one_more : (s : ℕ) → s < 2 ^ suc j → entry (foldings j (folded x)) (i * 2 ^ suc j + s) ≡ entry (folds (suc j) (spread (suc j) w i x)) s
  one_more s h = side (ltb s (2 ^ j)) refl
    where
      side : (b : Bool) → ltb s (2 ^ j) ≡ b → entry (foldings j (folded x)) (i * 2 ^ suc j + s) ≡ entry (folds (suc j) (spread (suc j) w i x)) s
      side true e = sums_place s (ltb-true s (2 ^ j) e)
      side false e =
          let is : 2 ^ j + (s - 2 ^ j) ≡ s = omega (arith, ltb-false s (2 ^ j) e) in
          rw is at (differences_place (s - 2 ^ j) (omega (arith, two-pow-succ j, ltb-false s (2 ^ j) e)))

-- after j foldings place i * 2^j + s has what folding leaves at place s of the entries from i on, w apart
beside : (j w i : ℕ) (x : List ℤ) (s : ℕ) → 2 ^ j * w ≡ 16 → i < w → s < 2 ^ j → entry (foldings j x) (i * 2 ^ j + s) ≡ entry (folds j (spread j w i x)) s
unfolding foldings folds
beside zero w i x zero all l h = let is : i * 1 + 0 ≡ 0 * w + i = omega arith in ap (entry x) is ∙ sym (spread_at 0 w i x 0 h)
beside zero w i x (suc s) all l h = absurd (not-suc-le-zero (le_of_suc-le-suc h))
beside (suc j) w i x s all l h =
    one_more j w i x all l (λ k t m g. beside j (2 * w) k (folded x) t (sym (mul_assoc (2 ^ j) 2 w) ∙ ap (λ (n : ℕ). n * w) (sym (pow-suc 2 j)) ∙ all) m g) s h

four_at : (x : List ℤ) (k : ℕ) → k < 16 → get_or (folded (folded (folded (folded x)))) k (pos 0) ≡ value_at x (2 * k)
unfolding foldings parity_sum value_at
four_at x k h =
    let front : 0 + k ≡ k = omega arith in
    rw front at (beside 4 1 0 x k refl (omega arith) h)
    ∙ folds_at 4 (spread 4 1 0 x) k h
    ∙ sum_same 16 _ (λ s. entry x s *ℤ sign s (2 * k))
    (λ s l.
    let is : s * 1 + 0 ≡ s = omega arith in
    ap₂ (λ (y z : ℤ). y *ℤ z) (spread_at 4 1 0 x s l ∙ ap (entry x) is) (sign_swap k s))

pub four_folds : (x : List ℤ) → folded (folded (folded (folded x))) ≡ half_of x
unfolding half_of
four_folds x =
    tab_is (pos 0) (folded (folded (folded (folded x)))) 16 (λ (k : ℕ). value_at x (2 * k)) (folded_length _) (four_at x)

-- a folding at most doubles the size of what is folded
fold_small : (x : ℕ → ℤ) (B : ℕ) → ((k : ℕ) → k < 16 → Bounded B (x k)) → (k : ℕ) → k < 16 → Bounded (B + B) (fold_at x k)
unfolding fold_at
fold_small x B small k h = size (eqb (k % 2) 0)
  where
    size : (b : Bool) → Bounded (B + B) (cond b (x (k / 2) +ℤ x (k / 2 + 8)) (x (k / 2) -ℤ x (k / 2 + 8)))
    size true = b_sum (small (k / 2) (omega arith)) (small (k / 2 + 8) (omega arith))
    size false = b_diff (small (k / 2) (omega arith)) (small (k / 2 + 8) (omega arith))

pub folded_small : {B : ℕ} {x : List ℤ} → Sixteen B x → Sixteen (B + B) (folded x)
folded_small {B} {x} p =
    record { long = folded_length x; small = λ k h. rw (folded_at x k h) (fold_small (entry x) B p.small k h) }

pub sixteen_weaken : {A B : ℕ} {x : List ℤ} → A ≤ B → Sixteen A x → Sixteen B x
sixteen_weaken l p = record { long = p.long; small = λ k h. b_weaken l (p.small k h) }

-- ---- two foldings at a time: entries k, k + 4, k + 8 and k + 12 give four neighbours

regroup : (a b c d : ℤ)
    → (a +ℤ b +ℤ (c +ℤ d) ≡ a +ℤ c +ℤ (b +ℤ d))
    × (a -ℤ b +ℤ (c -ℤ d) ≡ a +ℤ c -ℤ (b +ℤ d))
    × (a +ℤ b -ℤ (c +ℤ d) ≡ a -ℤ c +ℤ (b -ℤ d))
    × (a -ℤ b -ℤ (c -ℤ d) ≡ a -ℤ c -ℤ (b -ℤ d))
regroup a b c d =
    ring (a ∷ b ∷ c ∷ d ∷ [])
    (λ ρ p₀ p₁ p₂ p₃. simp (p₀, p₁, p₂, p₃, quoted) (solve ρ _ _ tt, solve ρ _ _ tt, solve ρ _ _ tt, solve ρ _ _ tt))

module _ (x : List ℤ) (k : ℕ) (h : k < 4) where
  abbrev again : List ℤ
  again = folded (folded x)

  abbrev grouped : (entry x k +ℤ entry x (k + 4) +ℤ (entry x (k + 8) +ℤ entry x (k + 12)) ≡ entry x k +ℤ entry x (k + 8) +ℤ (entry x (k + 4) +ℤ entry x (k + 12)))
      × (entry x k -ℤ entry x (k + 4) +ℤ (entry x (k + 8) -ℤ entry x (k + 12)) ≡ entry x k +ℤ entry x (k + 8) -ℤ (entry x (k + 4) +ℤ entry x (k + 12)))
      × (entry x k +ℤ entry x (k + 4) -ℤ (entry x (k + 8) +ℤ entry x (k + 12)) ≡ entry x k -ℤ entry x (k + 8) +ℤ (entry x (k + 4) -ℤ entry x (k + 12)))
      × (entry x k -ℤ entry x (k + 4) -ℤ (entry x (k + 8) -ℤ entry x (k + 12)) ≡ entry x k -ℤ entry x (k + 8) -ℤ (entry x (k + 4) -ℤ entry x (k + 12)))
  grouped = regroup (entry x k) (entry x (k + 4)) (entry x (k + 8)) (entry x (k + 12))

  far : k + 4 + 8 ≡ k + 12
  far = omega arith

  sum_near : entry x k +ℤ entry x (k + 8) ≡ entry (folded x) (2 * k)
  sum_near = even x k (omega arith)

  sum_far : entry x (k + 4) +ℤ entry x (k + 12) ≡ entry (folded x) (2 * k + 8)
  sum_far = let i : 2 * (k + 4) ≡ 2 * k + 8 = omega arith in rw (far, i) at (even x (k + 4) (omega arith))

  less_near : entry x k -ℤ entry x (k + 8) ≡ entry (folded x) (2 * k + 1)
  less_near = odd x k (omega arith)

  less_far : entry x (k + 4) -ℤ entry x (k + 12) ≡ entry (folded x) (2 * k + 1 + 8)
  less_far = let i : 2 * (k + 4) + 1 ≡ 2 * k + 1 + 8 = omega arith in rw (far, i) at (odd x (k + 4) (omega arith))

  pub first_of_four : entry x k +ℤ entry x (k + 4) +ℤ (entry x (k + 8) +ℤ entry x (k + 12)) ≡ entry again (4 * k)
  first_of_four =
      let i : 2 * (2 * k) ≡ 4 * k = omega arith in
      grouped.0 ∙ ap₂ (λ (u v : ℤ). u +ℤ v) sum_near sum_far ∙ rw i at (even (folded x) (2 * k) (omega arith))

  pub second_of_four : entry x k -ℤ entry x (k + 4) +ℤ (entry x (k + 8) -ℤ entry x (k + 12)) ≡ entry again (4 * k + 1)
  second_of_four =
      let i : 2 * (2 * k) + 1 ≡ 4 * k + 1 = omega arith in
      grouped.1 ∙ ap₂ (λ (u v : ℤ). u -ℤ v) sum_near sum_far ∙ rw i at (odd (folded x) (2 * k) (omega arith))

  pub third_of_four : entry x k +ℤ entry x (k + 4) -ℤ (entry x (k + 8) +ℤ entry x (k + 12)) ≡ entry again (4 * k + 2)
  third_of_four =
      let i : 2 * (2 * k + 1) ≡ 4 * k + 2 = omega arith in
      grouped.2 ∙ ap₂ (λ (u v : ℤ). u +ℤ v) less_near less_far ∙ rw i at (even (folded x) (2 * k + 1) (omega arith))

  pub fourth_of_four : entry x k -ℤ entry x (k + 4) -ℤ (entry x (k + 8) -ℤ entry x (k + 12)) ≡ entry again (4 * k + 3)
  fourth_of_four =
      let i : 2 * (2 * k + 1) + 1 ≡ 4 * k + 3 = omega arith in
      grouped.3 ∙ ap₂ (λ (u v : ℤ). u -ℤ v) less_near less_far ∙ rw i at (odd (folded x) (2 * k + 1) (omega arith))

-- four numbers of a width that has room for their sum, as the code reads them
pub record Four (w : Width) (a b c d : ℤ) : Type 0 where
  pub bound : ℕ
  pub a_in : Bounded bound a
  pub b_in : Bounded bound b
  pub c_in : Bounded bound c
  pub d_in : Bounded bound d
  pub room : bound + bound + (bound + bound) < 2 ^ hbits w

module _ {w : Width} {a b c d : ℤ} (f : Four w a b c d) where
  abbrev more : ℕ → ℕ → ℕ
  more m n = of_z w (to_z w m +ℤ to_z w n)

  abbrev less : ℕ → ℕ → ℕ
  less m n = of_z w (to_z w m -ℤ to_z w n)

  module _ (x : ℤ) (l : Bounded f.bound x) where
    read : Reads w (of_z w x) x f.bound
    read = r_in l (omega (arith, f.room))

  module _ (x y : ℤ) (l : Bounded f.bound x) (m : Bounded f.bound y) where
    added : Reads w (more (of_z w x) (of_z w y)) (x +ℤ y) (f.bound + f.bound)
    added = r_sum (read x l) (read y m) (omega (arith, f.room))

    subtracted : Reads w (less (of_z w x) (of_z w y)) (x -ℤ y) (f.bound + f.bound)
    subtracted = r_diff (read x l) (read y m) (omega (arith, f.room))

  pub fourth_fits : SFits w (to_z w (less (of_z w a) (of_z w b)) -ℤ to_z w (less (of_z w c) (of_z w d)))
  fourth_fits = fits_diff (subtracted a b f.a_in f.b_in) (subtracted c d f.c_in f.d_in) f.room

  pub first_is : to_z w (more (more (of_z w a) (of_z w b)) (more (of_z w c) (of_z w d))) ≡ a +ℤ b +ℤ (c +ℤ d)
  first_is = (r_sum (added a b f.a_in f.b_in) (added c d f.c_in f.d_in) f.room).is

  pub second_is : to_z w (more (less (of_z w a) (of_z w b)) (less (of_z w c) (of_z w d))) ≡ a -ℤ b +ℤ (c -ℤ d)
  second_is = (r_sum (subtracted a b f.a_in f.b_in) (subtracted c d f.c_in f.d_in) f.room).is

  pub third_is : to_z w (less (more (of_z w a) (of_z w b)) (more (of_z w c) (of_z w d))) ≡ a +ℤ b -ℤ (c +ℤ d)
  third_is = (r_diff (added a b f.a_in f.b_in) (added c d f.c_in f.d_in) f.room).is

  pub fourth_is : to_z w (less (less (of_z w a) (of_z w b)) (less (of_z w c) (of_z w d))) ≡ a -ℤ b -ℤ (c -ℤ d)
  fourth_is = (r_diff (subtracted a b f.a_in f.b_in) (subtracted c d f.c_in f.d_in) f.room).is
