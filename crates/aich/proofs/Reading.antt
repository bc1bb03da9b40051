-- What the reader's two passes decide: they pass exactly where the indicators read give the values.
-- Assumes nothing.
use mathlib.Core.Path.{◌≡◌, refl, sym, ap, ◌∙◌}
use mathlib.Core.Bool.{Bool, true, false, ◌&&◌}
use mathlib.Core.List.{List}
use Prim.Native.Nat.{ℕ, ◌+◌, ◌*◌, ◌/◌, ◌%◌, ◌<◌}
use native.Mathlib.Omega.{arith}
use borrow.Author.Tests.{eqb-true, eqb-false}
use lib.Dec.{eqb, lit<}
use lib.ListN.{length}
use lib.IntN.{ℤ, pos, negsuc, ◌*ℤ◌}
use mir.Syntax.{w32}
use mir.Val.{to_z, of_z}
use Rattle.run.specs.First.{Every}
use Rattle.run.proofs.Ranges.{range_parts, range_holds}
use Rattle.run.proofs.Table.{tab_length, tab_at, tab_is}
use Rattle.whole.specs.Bound.{Bounded}
use Rattle.whole.specs.Equal.{eq_z}
use Rattle.whole.proofs.Bound.{b_range, range_low, range_high, times_cancel}
use Rattle.whole.proofs.Bits.{Reads, r_in}
use Rattle.whole.proofs.Equal.{eq_z_true, eq_eq_z}
use Rattle.aich.specs.Rule.{value_at, unit, indicators_in}
use Rattle.aich.specs.Outcome.{agrees, given}
use Rattle.aich.specs.Method.{Sixteen, Paired, half_of, firsts, is_pair, alike, sign_of, fits_at, units_of}
use Rattle.run.proofs.Passing.{all_every, every_all}
use Rattle.aich.proofs.Laws.{entry, indicators_length, value_half, value_times, value_small, half_at, half_twice, unit_fits, fit_is, fit_sign, fit_twice, indicator_at, indicator_small, firsts_length, first_at, pairs_correlate, given_alike, given_sum}

and_parts : (a b : Bool) → (a && b) ≡ true → (a ≡ true) × (b ≡ true)
and_parts true b e = (refl, e)
and_parts false b e = absurd (let z : ◌≡◌ {A = ℕ} 0 1 = cc in omega arith)

-- the tests by what they say
module _ (v : List ℤ) (k : ℕ) where
  pub alike_parts : alike v k ≡ true → (entry v (2 * k) ≡ entry v (2 * k + 1)) × Bounded 16 (entry v (2 * k))
  unfolding is_pair
  alike_parts e =
      let p = and_parts (eq_z (entry v (2 * k)) (entry v (2 * k + 1))) _ e in
      let r = range_parts (negsuc 15) (pos 16) (entry v (2 * k)) p.1 in
      (eq_z_true _ _ p.0, b_range 15 (entry v (2 * k)) r.0 r.1)

  alike_holds : entry v (2 * k) ≡ entry v (2 * k + 1) → Bounded 16 (entry v (2 * k)) → alike v k ≡ true
  unfolding is_pair
  alike_holds e b = rw (eq_eq_z _ _ e, range_holds (negsuc 15) (pos 16) (entry v (2 * k)) (range_low 15 _ b) (range_high 15 _ b))

-- one value of each pair is small where the pairs are alike
pub firsts_small : (v : List ℤ) → Every (alike v) 16 → Sixteen 16 (firsts v)
firsts_small v like =
    record { long = firsts_length v; small = λ k h. rw (first_at v k h) (alike_parts v k (like k h)).1 }

-- .. and is what its bits stand for
module _ (v : List ℤ) (p : Paired v) (i : ℕ) (h : i < 16) where
  pub pair_same : entry v (2 * i) ≡ entry v (2 * i + 1)
  pair_same = (alike_parts v i (p.like i h)).0

  pub pair_kept : to_z w32 (of_z w32 (entry v (2 * i))) ≡ entry (firsts v) i
  pair_kept =
      let r : Reads w32 (of_z w32 (entry v (2 * i))) (entry v (2 * i)) 16 = r_in (alike_parts v i (p.like i h)).1 (lit< tt) in
      r.is ∙ sym (first_at v i h)

pub given_every : (x v : List ℤ) → given x v ≡ true → (j : ℕ) → j < 32 → value_at x j ≡ entry v j
unfolding given
given_every x v e j h = eq_z_true _ _ (all_every 32 (agrees x v) e j h)

pub every_given : (x v : List ℤ) → ((j : ℕ) → j < 32 → value_at x j ≡ entry v j) → given x v ≡ true
unfolding given
every_given x v is = every_all 32 (agrees x v) (λ j h. eq_eq_z _ _ (is j h))

pub units_length : (sums : List ℤ) → length (units_of sums) ≡ 16
unfolding units_of
units_length sums = tab_length 16 _

pub units_at : (sums : List ℤ) (s : ℕ) → s < 16 → entry (units_of sums) s ≡ sign_of (entry sums s)
unfolding units_of
units_at sums s h = tab_at 16 (λ (t : ℕ). sign_of (entry sums t)) s (pos 0) h

-- indicators give the values: both tests pass at every place
module _ (v : List ℤ) (is : given (indicators_in v) v ≡ true) where
  values_are : (j : ℕ) → j < 32 → value_at (indicators_in v) j ≡ entry v j
  values_are = given_every (indicators_in v) v is

  pub all_alike : Every (alike v) 16
  all_alike k h =
      alike_holds v k (given_alike (indicators_in v) v values_are k h)
      (rw (← values_are (2 * k) (omega arith)) (value_small (indicators_in v) (2 * k) (indicator_small v)))

  pub all_fit : Every (fits_at (half_of (firsts v))) 16
  all_fit s h =
      rw (half_at (firsts v) s h, given_sum (indicators_in v) v values_are s h)
      (unit_fits (entry (indicators_in v) s) (indicator_small v s h))

-- both tests pass at every place: the indicators are those of the sums, and they give the values
module _ (v : List ℤ) (like : Every (alike v) 16) (fit : Every (fits_at (half_of (firsts v))) 16) where
  pair : (k : ℕ) → k < 16 → entry v (2 * k) ≡ entry v (2 * k + 1)
  pair k h = (alike_parts v k (like k h)).0

  pub indicator_is : (s : ℕ) → s < 16 → entry (indicators_in v) s ≡ unit 16 (entry (half_of (firsts v)) s)
  indicator_is s h =
      indicator_at v s h
      ∙ ap (unit 32) (pairs_correlate v pair s ∙ rw (← half_at (firsts v) s h))
      ∙ fit_twice (entry (half_of (firsts v)) s) (fit s h)

  pub units_are : units_of (half_of (firsts v)) ≡ indicators_in v
  unfolding units_of
  units_are =
      sym (tab_is (pos 0) (indicators_in v) 16 _ (indicators_length v) (λ s h. indicator_is s h ∙ fit_sign (entry (half_of (firsts v)) s) (fit s h)))

  value_is : (k : ℕ) → k < 16 → value_at (indicators_in v) (2 * k) ≡ entry v (2 * k)
  value_is k h =
      times_cancel 16 (value_at (indicators_in v) (2 * k)) (entry v (2 * k)) (lit< tt)
      (sym (value_times (indicators_in v) (half_of (firsts v)) (pos 16) (2 * k) (λ s l. fit_is (entry (half_of (firsts v)) s) (fit s l) ∙ ap (λ (z : ℤ). z *ℤ pos 16) (sym (indicator_is s l))))
      ∙ half_twice (firsts v) k h ∙ ap (λ (z : ℤ). z *ℤ pos 16) (first_at v k h))

  pair_at : (j : ℕ) → j < 32 → entry v (2 * (j / 2)) ≡ entry v j
  pair_at j h = side (eqb (j % 2) 0) refl
    where
      side : (b : Bool) → eqb (j % 2) 0 ≡ b → entry v (2 * (j / 2)) ≡ entry v j
      side true e =
          let even : j % 2 ≡ 0 = eqb-true _ _ e in
          let q : 2 * (j / 2) ≡ j = omega arith in
          ap (entry v) q
      side false e =
          let odd : j % 2 ≡ 0 → ⊥ = eqb-false _ _ e in
          let q : 2 * (j / 2) + 1 ≡ j = omega arith in
          let k : j / 2 < 16 = omega arith in
          (alike_parts v (j / 2) (like (j / 2) k)).0 ∙ ap (entry v) q

  pub units_give : given (indicators_in v) v ≡ true
  units_give =
      every_given (indicators_in v) v
      (λ j h. value_half (indicators_in v) j (2 * (j / 2)) (omega arith) ∙ value_is (j / 2) (omega arith) ∙ pair_at j h)

-- indicators that give the values are the signs of the sums
pub given_units : (v : List ℤ) → given (indicators_in v) v ≡ true → units_of (half_of (firsts v)) ≡ indicators_in v
given_units v is = units_are v (all_alike v is) (all_fit v is)
