-- docs/RULES.md, 'Samples': what the call answers, for all inputs. Every refusal is 11, the lowest place first: 0 and 1 the values, 2 and 3 the levels, 4 the
-- antenna number.
-- Assumes nothing.
use Rattle.std.specs.Prelude.{ℕ, ◌≡◌, ltb, ℤ}
use Rattle.run.specs.Verdict.{Verdict}
use Rattle.run.specs.Refusals.{range_refused}
use Rattle.run.specs.Verdicts.{done, or_else, unless, leaves}
use Rattle.sample.specs.declared.Setting.{Setting}
use Rattle.sample.specs.declared.Setting.TheVariants.{Off, Shared, Each}
use Rattle.sample.specs.Answers.{Sampled}
use Rattle.sample.specs.Rule.{is_value, is_level, plus_zero, part}

-- the number and place for each case of the setting: 11, place 2 (antenna 1 or shared) or 3 (antenna 2), each level being checked whichever antenna is
-- asked for
unfoldable pub levels_verdict : Setting → Verdict
levels_verdict Off = done
levels_verdict (Shared level) = unless (is_level level) range_refused 2
levels_verdict (Each first second) = or_else (unless (is_level first) range_refused 2) (unless (is_level second) range_refused 3)

-- take: 11 (place 0 the in-phase value, 1 the quadrature value, 2 and 3 the levels, 4 the antenna number)
unfoldable pub take_verdict : ℤ → ℤ → Setting → ℕ → Verdict
take_verdict i q setting antenna =
    or_else (unless (is_value i) range_refused 0)
    (or_else (unless (is_value q) range_refused 1)
    (or_else (levels_verdict setting)
    (unless (ltb antenna 2) range_refused 4)))

-- a refused sample is +0, +0
pub record Take (i q : ℤ) (setting : Setting) (antenna : ℕ) (answer : Sampled) : Type 0 where
  pub verdict_is : answer.verdict ≡ take_verdict i q setting antenna
  pub inphase_is : answer.sample.inphase ≡ leaves (take_verdict i q setting antenna) (part setting antenna i) plus_zero
  pub quadrature_is : answer.sample.quadrature ≡ leaves (take_verdict i q setting antenna) (part setting antenna q) plus_zero
