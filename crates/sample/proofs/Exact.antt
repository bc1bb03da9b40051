-- The theorems of specs/Exact.antt.
-- Assumes nothing.
use mathlib.Core.Path.{◌≡◌, refl, ap, ◌∙◌}
use mathlib.Core.Bool.{Bool, true, false, cond, false≢true, true≢false}
use mathlib.Core.List.{[], ◌∷◌}
use Prim.Native.Nat.{ℕ, suc}
use native.Mathlib.Nat.{mul-one, one-mul}
use native.Mathlib.Omega.{arith}
use borrow.Author.Tests.{leb-true, le-leb, lt-ltb}
use lib.Dec.{T, eqb, leb, ltb, leb→le, lt→ltb, lit<}
use lib.ListN.{get_or}
use lib.IntN.{ℤ, pos, negsuc}
use lib.Ieee.{Float, nan, inf, fin, binary32, up, down, neg, mul, le, to_bits}
use lib.Ieee.Bits.{is_true}
use lib.Ieee.Fits.{and_i, and_l, of_int-fits, down_pos}
use lib.Ieee.Positive.{positive, le→cross, cross→le, first_pos}
use Rattle.run.specs.Verdict.{Verdict}
use Rattle.run.specs.First.{first_bad}
use Rattle.run.specs.Verdicts.{done, or_else, unless, each, leaves, Narrow}
use Rattle.run.proofs.Chain.{or_else_done, or_else_pass, unless_done, unless_pass, or_else_narrow, unless_narrow, check_narrow, leaves_refused, one_outcome, number_0}
use Rattle.sample.specs.declared.Setting.{Setting}
use Rattle.sample.specs.declared.Setting.TheVariants.{Off, Shared, Each}
use Rattle.run.specs.Ranges.{between}
use Rattle.sample.specs.Rule.{is_value, is_level, lowest, highest, plus_zero, times, part}
use Rattle.sample.specs.Outcome.{levels_verdict, take_verdict}
use Rattle.sample.specs.Exact.{ValueBetween, Level, LevelBetween, Levels, TakeAccepts, LowestPlace, ValueExact, RoundedOnce, ProductOfF32, ProductSigns, Silent, TakeSilent, TakeOnce, Packs, Worked}
use Rattle.sample.proofs.Laws.{passed, cast_exact, cast_times, Inside, inside, at_level, product_least, product_most, product_zero, product_negative, taken}

-- ---- what is accepted
pub value_between : ValueBetween
unfolding between
value_between (pos n) = (λ e. leb-true n 16 e, λ h. le-leb n 16 h)
value_between (negsuc n) = (
  λ e. let h = leb→le n 15 (and_l (leb n 15) true (passed e)) in omega arith,
  λ h. rw (le-leb n 15 (omega arith)),
)

level_to : (x : Float) → is_level x ≡ true → Level x
level_to x e = at_level (λ (x : Float). Inside x → Level x) bounds x (inside x e) (inside x e)
  where
    bounds : (m : ℕ) (e : ℤ) → Inside (fin false m e) → Level (fin false m e)
    bounds m e h =
        let a = le→cross lowest (fin false m e) tt h.above h.from_lowest in
        let b = le→cross (fin false m e) highest h.above tt h.to_highest in
        (refl, omega arith, omega arith)

level_from : (x : Float) → Level x → is_level x ≡ true
unfolding is_level
level_from nan h = absurd h
level_from (inf s) h = absurd h
level_from (fin true m e) h = absurd (true≢false h.0)
level_from (fin false m e) h =
    let d = down_pos e in
    let low = h.1 in
    let high = h.2 in
    let p : T (positive (fin false m e)) = lt→ltb 0 m (first_pos m (up e) (omega arith)) in
    is_true _ (and_i (le lowest (fin false m e)) (le (fin false m e) highest)
    (cross→le lowest (fin false m e) tt p (omega arith))
    (cross→le (fin false m e) highest p tt (omega arith)))

pub level_between : LevelBetween
level_between x = (level_to x, level_from x)

levels_to : (setting : Setting) → (levels_verdict setting).number ≡ 0 → Levels setting
unfolding levels_verdict
levels_to Off h = tt
levels_to (Shared level) h = level_to level (unless_done _ 11 2 (lit< tt) h)
levels_to (Each first second) h =
    let a = or_else_done _ _ h in
    (level_to first (unless_done _ 11 2 (lit< tt) a.first), level_to second (unless_done _ 11 3 (lit< tt) a.rest))

levels_from : (setting : Setting) → Levels setting → levels_verdict setting ≡ done
unfolding levels_verdict
levels_from Off h = refl
levels_from (Shared level) h = unless_pass 11 2 (level_from level h)
levels_from (Each first second) h = or_else_pass (unless_pass 11 2 (level_from first h.0)) (unless_pass 11 3 (level_from second h.1))

pub take_accepts : TakeAccepts
unfolding take_verdict
take_accepts i q setting antenna = (
  λ e.
      let t = taken i q setting antenna (number_0 e) in
      record {
        i_in = (value_between i).0 t.i_ok;
        q_in = (value_between q).0 t.q_ok;
        levels_in = levels_to setting t.levels_ok;
        antenna_in = t.antenna_ok;
      },
  λ a.
      or_else_pass (unless_pass 11 0 ((value_between i).1 a.i_in))
      (or_else_pass (unless_pass 11 1 ((value_between q).1 a.q_in))
      (or_else_pass (levels_from setting a.levels_in)
      (unless_pass 11 4 (lt-ltb antenna 2 a.antenna_in)))),
)

-- the chain of five tests refuses at the first that fails
five : (a b c d e : Bool)
    → or_else (unless a 11 0) (or_else (unless b 11 1) (or_else (or_else (unless c 11 2) (unless d 11 3)) (unless e 11 4)))
    ≡ each 0 11 (λ (k : ℕ). get_or (a ∷ b ∷ c ∷ d ∷ e ∷ []) k true) 5
unfolding or_else unless each first_bad
five false b c d e = refl
five true false c d e = refl
five true true false d e = refl
five true true true false e = refl
five true true true true false = refl
five true true true true true = refl

-- where one level is all that the setting has
alone : (c : Bool) → unless c 11 2 ≡ or_else (unless c 11 2) (unless true 11 3)
unfolding or_else unless
alone true = refl
alone false = refl

pub lowest_place : LowestPlace
unfolding take_verdict levels_verdict or_else unless
lowest_place i q Off antenna = five (is_value i) (is_value q) true true (ltb antenna 2)
lowest_place i q (Shared level) antenna =
    ap (λ (v : Verdict). or_else (unless (is_value i) 11 0) (or_else (unless (is_value q) 11 1) (or_else v (unless (ltb antenna 2) 11 4)))) (alone (is_level level))
    ∙ five (is_value i) (is_value q) (is_level level) true (ltb antenna 2)
lowest_place i q (Each first second) antenna = five (is_value i) (is_value q) (is_level first) (is_level second) (ltb antenna 2)

-- ---- what is sent
pub value_exact : ValueExact
value_exact v e = record { held = of_int-fits binary32 v; whole = cast_exact v e }

pub rounded_once : RoundedOnce
unfolding times mul
rounded_once (pos n) m e = rw (mul-one n, one-mul (down e))
rounded_once (negsuc n) m e = rw (mul-one (suc n), one-mul (down e))

pub product_of_f32 : ProductOfF32
product_of_f32 = cast_times

pub product_signs : ProductSigns
product_signs level e =
    let h = inside level e in
    record {
      zero_is = product_zero level h;
      at_least = product_least level h;
      at_most = product_most level h;
      negative_is = λ n. product_negative n level h;
    }

silent : {x : Float} → x ≡ plus_zero → Silent x
unfolding to_bits neg
silent e = record { plus_zero_lem = e; no_bit = ap (to_bits binary32) e; not_minus = λ m. let z : false ≡ true = cc in false≢true z }

leaves_same : {A : Type 0} (v : Verdict) (x : A) → leaves v x x ≡ x
unfolding leaves
leaves_same v x = pick (eqb v.number 0)
  where
    pick : (b : Bool) → cond b x x ≡ x
    pick true = refl
    pick false = refl

pub take_silent : TakeSilent
unfolding part
take_silent =
    record {
      off = λ i q antenna answer p.
          record {
            inphase_silent = silent (p.inphase_is ∙ leaves_same _ plus_zero);
            quadrature_silent = silent (p.quadrature_is ∙ leaves_same _ plus_zero);
          };
      refused = λ i q setting antenna answer p h.
          let n = rw p.verdict_is at h in
          record {
            inphase_silent = silent (p.inphase_is ∙ leaves_refused _ _ plus_zero n);
            quadrature_silent = silent (p.quadrature_is ∙ leaves_refused _ _ plus_zero n);
          };
    }

-- ---- the promise
pub take_once : TakeOnce
take_once i q setting antenna a b p r =
    λ k.
    record {
      verdict = one_outcome p.verdict_is r.verdict_is k;
      sample = record { inphase = one_outcome p.inphase_is r.inphase_is k; quadrature = one_outcome p.quadrature_is r.quadrature_is k };
    }

levels_narrow : (setting : Setting) → Narrow (levels_verdict setting)
unfolding levels_verdict
levels_narrow Off = record { number_fits = lit< tt; place_fits = lit< tt }
levels_narrow (Shared level) = unless_narrow _ 11 2 (lit< tt) (lit< tt)
levels_narrow (Each first second) =
    check_narrow _ 11 2 _ (lit< tt) (lit< tt) (lit< tt)
    (λ _. unless_narrow _ 11 3 (lit< tt) (lit< tt))

take_narrow : (i q : ℤ) (setting : Setting) (antenna : ℕ) → Narrow (take_verdict i q setting antenna)
unfolding take_verdict
take_narrow i q setting antenna =
    check_narrow _ 11 0 _ (lit< tt) (lit< tt) (lit< tt)
    (λ _. check_narrow _ 11 1 _ (lit< tt) (lit< tt) (lit< tt)
    (λ _. or_else_narrow _ _ (levels_narrow setting)
    (λ _. unless_narrow _ 11 4 (lit< tt) (lit< tt))))

pub packs : Packs
packs = record { take_narrow = take_narrow }

pub worked : Worked
unfolding between is_level le times mul part levels_verdict take_verdict or_else unless
worked =
    record {
      plain = refl;
      smallest = refl;
      half_way = refl;
      first_antenna = refl;
      second_antenna = refl;
      below_lowest = refl;
      above_highest = refl;
      all_faults = refl;
      second_level = refl;
    }
