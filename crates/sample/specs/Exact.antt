-- What docs/RULES.md, 'Samples', says in words, as theorems about the definitions of Rule and Outcome. Each statement is proved in proofs/Exact.antt under its
-- name in small letters.
-- Assumes nothing.
use Rattle.std.specs.Prelude.{ℕ, suc, ◌*◌, ◌≤◌, ◌<◌, ◌≡◌, Bool, true, false, not, List, [], ◌∷◌, ◌↔◌, T, ltb, get_or, ℤ, pos, negsuc, nat_abs, Float}
use Rattle.std.specs.Int.Signed.{non_neg}
use Rattle.std.specs.Float.{nan, inf, fin, binary32}
use Rattle.std.specs.Float.Ieee.{up, down, fits, round, neg, mul, le, of_int, to_bits}
use Rattle.std.specs.Float.Ieee.Exact.{HasValue}
use Rattle.run.specs.Refusals.{range_refused}
use Rattle.run.specs.Verdicts.{refused, done, each, Narrow}
use Rattle.sample.specs.declared.Setting.{Setting}
use Rattle.sample.specs.declared.Setting.TheVariants.{Off, Shared, Each}
use Rattle.sample.specs.declared.Sample.{Sample}
use Rattle.sample.specs.Answers.{Sampled}
use Rattle.sample.specs.Rule.{is_value, is_level, lowest, plus_zero, times, part}
use Rattle.sample.specs.Outcome.{take_verdict, Take}

-- ---- what is accepted

-- a value is in range exactly when it is -16 to 16
abbrev pub ValueBetween : Type 0
ValueBetween = (v : ℤ) → (is_value v ≡ true) ↔ (nat_abs v ≤ 16)

-- a level is in range: 1/1024 to 1024, both ends included, for the number m * up e / down e. NaN, both infinities, both zeros and what is negative are not
abbrev pub Level : Float → Type 0
Level nan = ⊥
Level (inf s) = ⊥
Level (fin s m e) = (s ≡ false) × (down e ≤ 1024 * (m * up e)) × (m * up e ≤ 1024 * down e)

abbrev pub LevelBetween : Type 0
LevelBetween = (x : Float) → (is_level x ≡ true) ↔ Level x

-- each level of the setting is checked: those of both antennas, whichever is asked for
abbrev pub Levels : Setting → Type 0
Levels Off = Unit
Levels (Shared level) = Level level
Levels (Each first second) = Level first × Level second

pub record Accepted (i q : ℤ) (setting : Setting) (antenna : ℕ) : Type 0 where
  pub i_in : nat_abs i ≤ 16
  pub q_in : nat_abs q ≤ 16
  pub levels_in : Levels setting
  pub antenna_in : antenna < 2

-- the call is done exactly when all is in range
abbrev pub TakeAccepts : Type 0
TakeAccepts = (i q : ℤ) (setting : Setting) (antenna : ℕ) → (take_verdict i q setting antenna ≡ done) ↔ Accepted i q setting antenna

-- whether all is well at the places 0 to 4: the values, the setting's levels (a place at which it has none is well), the antenna number
abbrev pub in_range : ℤ → ℤ → Setting → ℕ → List Bool
in_range i q Off antenna = is_value i ∷ is_value q ∷ true ∷ true ∷ ltb antenna 2 ∷ []
in_range i q (Shared level) antenna = is_value i ∷ is_value q ∷ is_level level ∷ true ∷ ltb antenna 2 ∷ []
in_range i q (Each first second) antenna = is_value i ∷ is_value q ∷ is_level first ∷ is_level second ∷ ltb antenna 2 ∷ []

-- every refusal is 11 at the lowest place that is out of range
abbrev pub LowestPlace : Type 0
LowestPlace =
    (i q : ℤ) (setting : Setting) (antenna : ℕ)
    → take_verdict i q setting antenna ≡ each 0 range_refused (λ (k : ℕ). get_or (in_range i q setting antenna) k true) 5

-- ---- what is sent

-- x is the whole number v, its sign included
abbrev pub Whole : Float → ℤ → Type 0
Whole x (pos n) = HasValue x false n 1
Whole x (negsuc n) = HasValue x true (suc n) 1

-- a value is exact in f32, ±16 included: the f32 nearest to it is the value itself
pub record InF32 (v : ℤ) : Type 0 where
  pub held : T (fits binary32 (of_int binary32 v))
  pub whole : Whole (of_int binary32 v) v

abbrev pub ValueExact : Type 0
ValueExact = (v : ℤ) → is_value v ≡ true → InF32 v

-- the product is rounded once: one rounding to binary32 of the exact product, of which the level gives m * up e / down e
abbrev pub RoundedOnce : Type 0
RoundedOnce = (v : ℤ) (m : ℕ) (e : ℤ) → times v (fin false m e) ≡ round binary32 (not (non_neg v)) (nat_abs v * (m * up e)) (down e)

-- .. which is what a machine gets that multiplies the value as an f32 by the level
abbrev pub ProductOfF32 : Type 0
ProductOfF32 = (v : ℤ) (level : Float) → is_value v ≡ true → mul binary32 (of_int binary32 v) level ≡ times v level

-- the product has the value's sign: 0 gives +0; 1 to 16 give a number of 1/1024 to 16384, which is 2 to the 14; and -n gives the negative of what n gives
pub record Signs (level : Float) : Type 0 where
  pub zero_is : times (pos 0) level ≡ plus_zero
  pub at_least : (n : ℕ) → 1 ≤ n → T (le lowest (times (pos n) level))
  pub at_most : (n : ℕ) → 1 ≤ n → n ≤ 16 → T (le (times (pos n) level) (fin false 1 (pos 14)))
  pub negative_is : (n : ℕ) → times (negsuc n) level ≡ neg (times (pos (suc n)) level)

abbrev pub ProductSigns : Type 0
ProductSigns = (level : Float) → is_level level ≡ true → Signs level

-- +0 and not -0: the two compare as equal, and differ in their sign bit
pub record Silent (x : Float) : Type 0 where
  pub plus_zero_lem : x ≡ plus_zero
  pub no_bit : to_bits binary32 x ≡ 0
  pub not_minus : x ≡ neg plus_zero → ⊥

pub record SilentSample (s : Sample) : Type 0 where
  pub inphase_silent : Silent s.inphase
  pub quadrature_silent : Silent s.quadrature

-- an off sample and a refused sample are +0, +0
pub record TakeSilent : Type 0 where
  pub off : (i q : ℤ) (antenna : ℕ) (answer : Sampled) → Take i q Off antenna answer → SilentSample answer.sample
  pub refused : (i q : ℤ) (setting : Setting) (antenna : ℕ) (answer : Sampled) → Take i q setting antenna answer → (answer.verdict.number ≡ 0 → ⊥) → SilentSample answer.sample

-- ---- the promise

-- it allows one outcome
abbrev pub TakeOnce : Type 0
TakeOnce = (i q : ℤ) (setting : Setting) (antenna : ℕ) (a b : Sampled) → Take i q setting antenna a → Take i q setting antenna b → a ≡ b

-- number and place fit the 16 and 32 bits that the C boundary has for them
pub record Packs : Type 0 where
  pub take_narrow : (i q : ℤ) (setting : Setting) (antenna : ℕ) → Narrow (take_verdict i q setting antenna)

-- 3 at 5/2; -16 at 1/1024; 3 at the f32 after 1, half way between two f32, of which 3 + 2 to the -21 is the even one; the level of each antenna; the f32
-- before 1/1024 and the f32 after 1024; faults at every place; a NaN for the antenna that is not asked for
pub record Worked : Type 0 where
  pub plain : times (pos 3) (fin false 5 (negsuc 0)) ≡ fin false 15 (negsuc 0)
  pub smallest : times (negsuc 15) lowest ≡ fin true 1 (negsuc 5)
  pub half_way : times (pos 3) (fin false 8388609 (negsuc 22)) ≡ fin false 6291457 (negsuc 20)
  pub first_antenna : part (Each (fin false 1 (pos 0)) (fin false 1 (pos 1))) 0 (pos 1) ≡ fin false 1 (pos 0)
  pub second_antenna : part (Each (fin false 1 (pos 0)) (fin false 1 (pos 1))) 1 (pos 1) ≡ fin false 1 (pos 1)
  pub below_lowest : is_level (fin false 16777215 (negsuc 33)) ≡ false
  pub above_highest : is_level (fin false 8388609 (negsuc 12)) ≡ false
  pub all_faults : take_verdict (pos 17) (negsuc 16) (Each nan (inf true)) 2 ≡ refused 11 0
  pub second_level : take_verdict (pos 16) (negsuc 15) (Each lowest nan) 0 ≡ refused 11 3
