-- docs/RULES.md, 'AICH': what each call answers and leaves in each lent run, for all inputs.
-- Assumes nothing.
use Rattle.std.specs.Prelude.{ℕ, ◌≡◌, Bool, List, length, get_or, eqb, ℤ, pos, negsuc}
use Rattle.run.specs.Verdict.{Verdict}
use Rattle.run.specs.First.{all}
use Rattle.run.specs.Ranges.{in_range}
use Rattle.run.specs.Refusals.{length_refused, values_refused, range_refused, signature_refused}
use Rattle.run.specs.Verdicts.{or_else, unless, each, leaves}
use Rattle.whole.specs.Equal.{eq_z}
use Rattle.aich.specs.Rule.{value_at, values_of, indicators_in, allows}

-- map: 3 (indicators, values), 11 at the index; an indicator is -1, 0 or +1
unfoldable pub map_verdict : List ℤ → ℕ → Verdict
map_verdict indicators valuesLength =
    or_else (unless (eqb (length indicators) 16) length_refused 0)
    (or_else (unless (eqb valuesLength 32) length_refused 1)
    (each 0 range_refused (in_range (negsuc 0) (pos 1) indicators) (length indicators)))

pub record Map (indicators values : List ℤ) (answer : Verdict) (values_after : List ℤ) : Type 0 where
  pub verdict_is : answer ≡ map_verdict indicators (length values)
  pub values_is : values_after ≡ leaves (map_verdict indicators (length values)) (values_of indicators) values

-- value j is the one that the indicators give
abbrev pub agrees : List ℤ → List ℤ → ℕ → Bool
agrees indicators values j = eq_z (value_at indicators j) (get_or values j (pos 0))

-- all 32 are
unfoldable pub given : List ℤ → List ℤ → Bool
given indicators values = all 32 (agrees indicators values)

-- read: 3 (values, indicators) ..
unfoldable pub read_head : ℕ → ℕ → Verdict
read_head valuesLength indicatorsLength =
    or_else (unless (eqb valuesLength 32) length_refused 0) (unless (eqb indicatorsLength 16) length_refused 1)

-- .. then 10 for values that are not those of the indicators read from them
unfoldable pub read_verdict : List ℤ → ℕ → Verdict
read_verdict values indicatorsLength =
    or_else (read_head (length values) indicatorsLength) (unless (given (indicators_in values) values) values_refused 0)

pub record Read (values indicators : List ℤ) (answer : Verdict) (indicators_after : List ℤ) : Type 0 where
  pub verdict_is : answer ≡ read_verdict values (length indicators)
  pub indicators_is : indicators_after ≡ leaves (read_verdict values (length indicators)) (indicators_in values) indicators

-- ---- the same under a set of available signatures

-- 26 at the lowest of the sixteen signatures that is not available and has an indicator other than 0
unfoldable pub set_verdict : ℕ → List ℤ → Verdict
set_verdict available indicators = each 0 signature_refused (allows available indicators) 16

-- map: its own checks, then 26
unfoldable pub map_available_verdict : ℕ → List ℤ → ℕ → Verdict
map_available_verdict available indicators valuesLength = or_else (map_verdict indicators valuesLength) (set_verdict available indicators)

pub record MapAvailable (available : ℕ) (indicators values : List ℤ) (answer : Verdict) (values_after : List ℤ) : Type 0 where
  pub verdict_is : answer ≡ map_available_verdict available indicators (length values)
  pub values_is : values_after ≡ leaves (map_available_verdict available indicators (length values)) (values_of indicators) values

-- read: its own checks, then 26 for the indicators that the values give
unfoldable pub read_available_verdict : ℕ → List ℤ → ℕ → Verdict
read_available_verdict available values indicatorsLength = or_else (read_verdict values indicatorsLength) (set_verdict available (indicators_in values))

pub record ReadAvailable (available : ℕ) (values indicators : List ℤ) (answer : Verdict) (indicators_after : List ℤ) : Type 0 where
  pub verdict_is : answer ≡ read_available_verdict available values (length indicators)
  pub indicators_is : indicators_after ≡ leaves (read_available_verdict available values (length indicators)) (indicators_in values) indicators
