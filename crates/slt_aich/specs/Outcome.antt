-- The AICH for C: the answer of the call behind each function, packed, and the same lent runs (docs/RULES.md, 'Packed answers').
-- Assumes nothing.
use Rattle.std.specs.Prelude.{ℕ, ◌≡◌, List, length, ℤ}
use Rattle.run.specs.Verdicts.{leaves}
use Rattle.aich.specs.Rule.{values_of, indicators_in}
use Rattle.aich.specs.Outcome.{map_verdict, read_verdict, map_available_verdict, read_available_verdict}
use Rattle.packed.specs.Rule.{packed}

pub record AichMap (indicators values : List ℤ) (answer : ℕ) (values_after : List ℤ) : Type 0 where
  pub answer_is : answer ≡ packed (map_verdict indicators (length values)) 0
  pub values_is : values_after ≡ leaves (map_verdict indicators (length values)) (values_of indicators) values

pub record AichRead (values indicators : List ℤ) (answer : ℕ) (indicators_after : List ℤ) : Type 0 where
  pub answer_is : answer ≡ packed (read_verdict values (length indicators)) 0
  pub indicators_is : indicators_after ≡ leaves (read_verdict values (length indicators)) (indicators_in values) indicators

pub record AichMapAvailable (available : ℕ) (indicators values : List ℤ) (answer : ℕ) (values_after : List ℤ) : Type 0 where
  pub answer_is : answer ≡ packed (map_available_verdict available indicators (length values)) 0
  pub values_is : values_after ≡ leaves (map_available_verdict available indicators (length values)) (values_of indicators) values

pub record AichReadAvailable (available : ℕ) (values indicators : List ℤ) (answer : ℕ) (indicators_after : List ℤ) : Type 0 where
  pub answer_is : answer ≡ packed (read_available_verdict available values (length indicators)) 0
  pub indicators_is : indicators_after ≡ leaves (read_available_verdict available values (length indicators)) (indicators_in values) indicators
