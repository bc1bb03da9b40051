-- Laws of the definitions of specs/: a value as a float, its product with a level, and what is known where no check refused.
-- Assumes nothing.
use mathlib.Core.Path.{◌≡◌, refl, sym, ap, ◌∙◌, subst}
use mathlib.Core.Bool.{Bool, true, false, cond, ◌&&◌, false≢true, true≢false}
use Prim.Native.Nat.{ℕ, zero, suc, ◌+◌, ◌*◌, ◌^◌, ◌≤◌, ◌<◌}
use native.Mathlib.Nat.{le_trans, zero-lt-suc, mul-pos, mul-one, one-mul, zero-mul, mul_assoc, mul_left_comm}
use native.Mathlib.Omega.{arith}
use borrow.Author.Tests.{ltb-true}
use lib.Dec.{T, leb, ltb, eqb, eqb-suc-zero, leb→le, le→leb, ltb→lt, lt→ltb, lit≤, lit<}
use lib.IntN.{ℤ, pos, negsuc}
use lib.Ieee.{Float, nan, inf, fin, Format, binary32, prec, emax, low, up, down, unlike, odd, units, round, neg, mul, le, of_int, in_float}
use lib.Ieee.Fits.{and_l, and_r, up_pos, down_pos}
use lib.Ieee.Exact.{HasValue}
use lib.Ieee.Back.{round_whole}
use lib.Ieee.Positive.{positive, between, cross→le, mul_mono}
use lib.Ieee.Scale.{round_same}
use Rattle.std.specs.Prelude.{Result, Ok, Err}
use Rattle.std.specs.Result.{IsErrAnd}
use Rattle.run.specs.declared.refusal.Refusal.{Refusal}
use Rattle.run.specs.Answers.{number_of}
use Rattle.run.specs.Verdicts.{refused}
use Rattle.run.proofs.Answers.{left}
use Rattle.run.proofs.Chain.{or_else_done, unless_done}
use Rattle.run.specs.Ranges as ranges
use Rattle.sample.specs.declared.Setting.{Setting}
use Rattle.sample.specs.Rule.{is_value, lowest, highest, is_level, plus_zero, times}
use Rattle.sample.specs.declared.Sample.{Sample}
use Rattle.sample.specs.Answers.{sampled_of}
use Rattle.sample.specs.Outcome.{levels_verdict, take_verdict, Take}
use Rattle.sample.specs.Exact.{Whole}

-- ---- two tests, the second made only where the first passed
pub both_tests : (a b : Bool) → a ≡ true → b ≡ (a && b)
both_tests true b e = refl
both_tests false b e = absurd (false≢true e)

pub first_fails : (a b : Bool) → a ≡ false → false ≡ (a && b)
first_fails true b e = absurd (true≢false e)
first_fails false b e = refl

-- ---- a value as a float
-- a test that passed, as the kit's laws have it
pub passed : {b : Bool} → b ≡ true → T b
passed e = subst T (sym e) tt

-- -16 to 16 lie where an f32 holds every whole number
pub in_float_lem : (v : ℤ) → is_value v ≡ true → T (in_float binary32 v)
unfolding ranges.between in_float
in_float_lem v e = holds v (passed e)
  where
    holds : (v : ℤ) → T (is_value v) → T (in_float binary32 v)
    holds (pos n) t = le→leb n 16777216 (le_trans (leb→le n 16 t) (lit≤ tt))
    holds (negsuc n) t = let h = leb→le n 15 (and_l (leb n 15) true t) in lt→ltb n 16777216 (omega arith)

-- the f32 of a value is the value: the cast rounds nothing
pub cast_exact : (v : ℤ) → is_value v ≡ true → Whole (of_int binary32 v) v
unfolding of_int in_float
cast_exact v e = value v (in_float_lem v e)
  where
    value : (v : ℤ) → T (in_float binary32 v) → Whole (of_int binary32 v) v
    value (pos n) t = round_whole binary32 false n (leb→le n 16777216 t)
    value (negsuc n) t = round_whole binary32 true (suc n) (ltb→lt n 16777216 t)

-- ---- a product with a float that is a whole number
-- the float is zero exactly when the number is
same_zero : (m a : ℕ) (e : ℤ) → m * up e * 1 ≡ a * down e → eqb m 0 ≡ eqb a 0
same_zero zero zero e h = refl
same_zero zero (suc a) e h = absurd (let p = mul-pos (zero-lt-suc a) (down_pos e) in let z = zero-mul (up e) in let w : ⊥ = omega arith in w)
same_zero (suc m) zero e h = absurd (let p = mul-pos (zero-lt-suc m) (up_pos e) in let z = zero-mul (down e) in let w : ⊥ = omega arith in w)
same_zero (suc m) (suc a) e h = eqb-suc-zero m ∙ sym (eqb-suc-zero a)

cross : (m a e x d : ℕ) → m * 1 ≡ a * e → m * x * (1 * d) ≡ a * 1 * x * (e * d)
cross m a e x d h =
    let g : m ≡ a * e = sym (mul-one m) ∙ h in
    rw g (simp (mul-one, one-mul, mul_assoc, mul_left_comm))

-- so its product with any float is the number's
product : (f : Format) (x y : Float) (s : Bool) (a : ℕ) → HasValue x s a 1 → mul f x y ≡ mul f (fin s a (pos 0)) y
unfolding mul
product f nan y s a h = elim h [ ]
product f (inf _) y s a h = elim h [ ]
product f (fin t m e) nan s a h = refl
product f (fin t m e) (inf u) s a h = rw (same_zero m a e h.1, h.0)
product f (fin t m e) (fin u n d) s a h =
    rw h.0
    (round_same f (unlike s u) (m * up e * (n * up d)) (down e * down d) (a * 1 * (n * up d)) (1 * down d)
    (mul-pos (down_pos e) (down_pos d))
    (mul-pos (lit< tt) (down_pos d))
    (cross (m * up e) a (down e) (n * up d) (down d) h.1))

pub cast_times : (v : ℤ) (level : Float) → is_value v ≡ true → mul binary32 (of_int binary32 v) level ≡ times v level
unfolding times
cast_times (pos n) level e = product binary32 _ level false n (cast_exact (pos n) e)
cast_times (negsuc n) level e = product binary32 _ level true (suc n) (cast_exact (negsuc n) e)

-- ---- a level lies between its bounds, so it is a number above zero
pub record Inside (x : Float) : Type 0 where
  pub from_lowest : T (le lowest x)
  pub to_highest : T (le x highest)
  pub above : T (positive x)

pub inside : (x : Float) → is_level x ≡ true → Inside x
unfolding is_level
inside x e =
    let l = and_l (le lowest x) (le x highest) (passed e) in
    let h = and_r (le lowest x) (le x highest) (passed e) in
    record { from_lowest = l; to_highest = h; above = between lowest x highest tt tt l h }

-- so what holds of every number with the sign + holds of it
pub at_level : (P : Float → Type 0) → ((m : ℕ) (e : ℤ) → P (fin false m e)) → (x : Float) → Inside x → P x
at_level P f nan h = absurd h.above
at_level P f (inf s) h = absurd h.above
at_level P f (fin true m e) h = absurd h.above
at_level P f (fin false m e) h = f m e

-- ---- the product of a value and a level
-- rounding is the same for both signs
neg_odd : (d q k l : ℕ) → odd d true q k l ≡ neg (odd d false q k l)
unfolding odd neg
neg_odd d zero k l = refl
neg_odd d (suc q) k l = refl

neg_units : (f : Format) (q k : ℕ) → units f true q k ≡ neg (units f false q k)
unfolding units neg
neg_units f q k = pick (ltb (q * 2 ^ k) (2 ^ (low f + suc (emax f))))
  where
    pick : (b : Bool) → cond b (odd (suc (prec f)) true q k (low f)) (inf true) ≡ neg (cond b (odd (suc (prec f)) false q k (low f)) (inf false))
    pick true = neg_odd (suc (prec f)) q k (low f)
    pick false = refl

neg_round : (f : Format) (a b : ℕ) → round f true a b ≡ neg (round f false a b)
unfolding round
neg_round f a b = neg_units f _ _

round_zero : (d : ℕ) → 0 < d → round binary32 false 0 d ≡ plus_zero
unfolding round
round_zero d h = round_same binary32 false 0 d 0 1 h (lit< tt) (zero-mul 1 ∙ sym (zero-mul d))

-- a product of numbers above zero grows with its factors, from 1 times 1/1024 to 16 times 1024
module _ (level : Float) (h : Inside level) (n : ℕ) (some : 1 ≤ n) where
  whole_positive : T (positive (fin false n (pos 0)))
  whole_positive = lt→ltb 0 n some

  pub product_least : T (le lowest (times (pos n) level))
  unfolding times mul
  product_least =
      mul_mono binary32 (fin false 1 (pos 0)) (fin false n (pos 0)) lowest level tt whole_positive tt h.above
      (cross→le (fin false 1 (pos 0)) (fin false n (pos 0)) tt whole_positive (omega arith))
      h.from_lowest

  pub product_most : n ≤ 16 → T (le (times (pos n) level) (fin false 1 (pos 14)))
  unfolding times mul
  product_most few =
      mul_mono binary32 (fin false n (pos 0)) (fin false 16 (pos 0)) level highest whole_positive tt h.above tt
      (cross→le (fin false n (pos 0)) (fin false 16 (pos 0)) whole_positive tt (omega arith))
      h.to_highest

pub product_zero : (x : Float) → Inside x → times (pos 0) x ≡ plus_zero
unfolding times mul
product_zero =
    at_level (λ (x : Float). times (pos 0) x ≡ plus_zero)
    (λ m e. rw (zero-mul 1, zero-mul (m * up e)) (round_zero (1 * down e) (mul-pos (lit< tt) (down_pos e))))

pub product_negative : (n : ℕ) (x : Float) → Inside x → times (negsuc n) x ≡ neg (times (pos (suc n)) x)
unfolding times mul
product_negative n =
    at_level (λ (x : Float). times (negsuc n) x ≡ neg (times (pos (suc n)) x))
    (λ m e. neg_round binary32 (suc n * 1 * (m * up e)) (1 * down e))

-- ---- what is known where no check refused
pub record Taken (i q : ℤ) (setting : Setting) (antenna : ℕ) : Type 0 where
  pub i_ok : is_value i ≡ true
  pub q_ok : is_value q ≡ true
  pub levels_ok : (levels_verdict setting).number ≡ 0
  pub antenna_ok : antenna < 2

pub taken : (i q : ℤ) (setting : Setting) (antenna : ℕ) → (take_verdict i q setting antenna).number ≡ 0 → Taken i q setting antenna
unfolding take_verdict
taken i q setting antenna h =
    let a = or_else_done _ _ h in
    let b = or_else_done _ _ a.rest in
    let c = or_else_done _ _ b.rest in
    record {
      i_ok = unless_done _ 11 0 (lit< tt) a.first;
      q_ok = unless_done _ 11 1 (lit< tt) b.first;
      levels_ok = c.first;
      antenna_ok = ltb-true _ _ (unless_done _ 11 4 (lit< tt) c.rest);
    }

-- a refusal that is handed on
pub refused_take : {i q : ℤ} {setting : Setting} {antenna : ℕ} (r : Result Sample Refusal) (x : Refusal) → IsErrAnd r (λ e. e ≡ x)
    → refused (number_of x.reason) x.place ≡ take_verdict i q setting antenna → Take i q setting antenna (sampled_of r)
refused_take (Ok sample) x h e = absurd h
refused_take (Err y) x h e =
    record { verdict_is = ap (λ z. refused (number_of z.reason) z.place) h ∙ e; inphase_is = left x _ _ e; quadrature_is = left x _ _ e }
