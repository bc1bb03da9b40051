-- The theorems of the AICH under a set of available signatures (docs/RULES.md, 'AICH', request Q-6). Each statement is proved in proofs/Available.antt under its name
-- in small letters.
-- Assumes nothing.
use Rattle.std.specs.Prelude.{ℕ, ◌<◌, ◌≡◌, true, false, List, ◌↔◌, get_or, ℤ, pos}
use Rattle.run.specs.Verdict.{Verdict}
use Rattle.run.specs.Refusals.{signature_refused}
use Rattle.run.specs.Verdicts.{refused, done}
use Rattle.aich.specs.Rule.{values_of, indicators_in, offers}
use Rattle.aich.specs.Outcome.{Map, Read, set_verdict, map_available_verdict, MapAvailable, read_available_verdict, ReadAvailable}

-- TS 25.211, 5.3.3.7: 'if the signature s is not a member of the set of available signatures .. then AI_s shall be set to 0'
abbrev pub Zero : ℕ → List ℤ → ℕ → Type 0
Zero available indicators s = offers available s ≡ false → get_or indicators s (pos 0) ≡ pos 0

-- the check of the set passes exactly where the sixteen indicators obey that, and 26 is told at the lowest that does not
pub record SetMeans (available : ℕ) (indicators : List ℤ) : Type 0 where
  pub passes : (set_verdict available indicators ≡ done) ↔ ((s : ℕ) → s < 16 → Zero available indicators s)
  pub told : (s : ℕ) → set_verdict available indicators ≡ refused signature_refused s → (s < 16) × (Zero available indicators s → ⊥)
  pub lowest : (s : ℕ) → set_verdict available indicators ≡ refused signature_refused s → (t : ℕ) → t < s → Zero available indicators t

abbrev pub SetIs : Type 0
SetIs = (available : ℕ) (indicators : List ℤ) → SetMeans available indicators

-- indicators give values under a set: the mapper under the set takes them, and this is what it writes
pub record GivesUnder (available : ℕ) (indicators values : List ℤ) : Type 0 where
  pub taken : map_available_verdict available indicators 32 ≡ done
  pub written : values_of indicators ≡ values

-- the reader under a set accepts values exactly when some indicators give them under that set, and hands back those, of which there is one set
pub record ExactUnder (available : ℕ) (values : List ℤ) : Type 0 where
  pub accepts : (read_available_verdict available values 16 ≡ done) ↔ ((indicators : List ℤ) × GivesUnder available indicators values)
  pub hands_back : (indicators : List ℤ) → GivesUnder available indicators values → indicators_in values ≡ indicators
  pub one_set : (indicators others : List ℤ) → GivesUnder available indicators values → GivesUnder available others values → indicators ≡ others

abbrev pub AvailableExact : Type 0
AvailableExact = (available : ℕ) (values : List ℤ) → ExactUnder available values

-- with all sixteen signatures available the calls are the base's: answer and runs
pub record AllAvailable : Type 0 where
  pub map : (indicators values : List ℤ) (answer : Verdict) (after : List ℤ) → MapAvailable 65535 indicators values answer after ↔ Map indicators values answer after
  pub read : (values indicators : List ℤ) (answer : Verdict) (after : List ℤ) → ReadAvailable 65535 values indicators answer after ↔ Read values indicators answer after

-- every signature of a set is one of a larger set
abbrev pub Within : ℕ → ℕ → Type 0
Within small large = (s : ℕ) → s < 16 → offers small s ≡ true → offers large s ≡ true

-- what is done under a set is done under any larger one, and leaves the same
pub record MoreAvailable (small large : ℕ) : Type 0 where
  pub map : (indicators values after : List ℤ) → MapAvailable small indicators values done after → MapAvailable large indicators values done after
  pub read : (values indicators after : List ℤ) → ReadAvailable small values indicators done after → ReadAvailable large values indicators done after

abbrev pub LargerSet : Type 0
LargerSet = (small large : ℕ) → Within small large → MoreAvailable small large

-- each promise allows one outcome
pub record AvailableOnce : Type 0 where
  pub map : (available : ℕ) (indicators values : List ℤ) (a b : Verdict) (x y : List ℤ) → MapAvailable available indicators values a x → MapAvailable available indicators values b y → (a ≡ b) × (x ≡ y)
  pub read : (available : ℕ) (values indicators : List ℤ) (a b : Verdict) (x y : List ℤ) → ReadAvailable available values indicators a x → ReadAvailable available values indicators b y → (a ≡ b) × (x ≡ y)
