-- Demand 2 for the AICH (docs/RULES.md, 'The demands' and 'AICH'), and how large its values are. Each statement is proved in proofs/Exact.antt under its name in
-- small letters.
-- Assumes nothing.
use Rattle.std.specs.Prelude.{ℕ, ◌≡◌, List, ◌↔◌, length, ℤ, pos, negsuc}
use Rattle.run.specs.Verdict.{Verdict}
use Rattle.run.specs.First.{Every}
use Rattle.run.specs.Ranges.{in_range}
use Rattle.run.specs.Verdicts.{done, Narrow}
use Rattle.aich.specs.Rule.{values_of, indicators_in}
use Rattle.aich.specs.Outcome.{map_verdict, Map, read_verdict, Read, map_available_verdict, read_available_verdict}

-- indicators give values: map takes them, and this is what it writes
pub record Gives (indicators values : List ℤ) : Type 0 where
  pub taken : map_verdict indicators 32 ≡ done
  pub written : values_of indicators ≡ values

-- read accepts values exactly when some indicators give them, and hands back those, of which there is one set
pub record Exact (values : List ℤ) : Type 0 where
  pub accepts : (read_verdict values 16 ≡ done) ↔ ((indicators : List ℤ) × Gives indicators values)
  pub hands_back : (indicators : List ℤ) → Gives indicators values → indicators_in values ≡ indicators
  pub one_set : (indicators others : List ℤ) → Gives indicators values → Gives others values → indicators ≡ others

abbrev pub ReadExact : Type 0
ReadExact = (values : List ℤ) → Exact values

-- values that indicators give are 32, each in -16 to 16
pub record Sized (values : List ℤ) : Type 0 where
  pub long : length values ≡ 32
  pub small : Every (in_range (negsuc 15) (pos 16) values) 32

abbrev pub GivenSized : Type 0
GivenSized = (indicators values : List ℤ) → Gives indicators values → Sized values

-- each promise allows one outcome
abbrev pub MapOnce : Type 0
MapOnce =
    (indicators values : List ℤ) (a b : Verdict) (x y : List ℤ) → Map indicators values a x → Map indicators values b y → (a ≡ b) × (x ≡ y)

abbrev pub ReadOnce : Type 0
ReadOnce =
    (values indicators : List ℤ) (a b : Verdict) (x y : List ℤ) → Read values indicators a x → Read values indicators b y → (a ≡ b) × (x ≡ y)

-- number and place fit the 16 and 32 bits that the C boundary has for them
pub record Packs : Type 0 where
  pub map_narrow : (indicators : List ℤ) (values_length : ℕ) → Narrow (map_verdict indicators values_length)
  pub read_narrow : (values : List ℤ) (indicators_length : ℕ) → Narrow (read_verdict values indicators_length)
  pub map_available_narrow : (available : ℕ) (indicators : List ℤ) (values_length : ℕ) → Narrow (map_available_verdict available indicators values_length)
  pub read_available_narrow : (available : ℕ) (values : List ℤ) (indicators_length : ℕ) → Narrow (read_available_verdict available values indicators_length)
