-- What a printed number is, and that each promise allows one outcome. Each statement is proved in proofs/Exact.antt under its name in
-- small letters.
-- Assumes nothing.
use Rattle.std.specs.Prelude.{ℕ, ◌+◌, ◌*◌, ◌-◌, ◌≤◌, ◌<◌, ◌≡◌, List, [], ◌∷◌, length, get_or}
use Rattle.run.specs.Verdict.{Verdict}
use Rattle.lines.specs.Answers.{Told}
use Rattle.lines.specs.Text.{decimal}
use Rattle.lines.specs.Outcome.{Head, Record, Tell}

-- a number's text gives the number back, holds digits alone, and begins with 0 only where it is 0
unfoldable pub read_from : ℕ → List ℕ → ℕ
read_from before [] = before
read_from before (d ∷ s) = read_from (before * 10 + (d - 48)) s

pub record Numeral (n : ℕ) : Type 0 where
  pub reads : read_from 0 (decimal n) ≡ n
  pub digits : (k : ℕ) → k < length (decimal n) → (48 ≤ get_or (decimal n) k 0) × (get_or (decimal n) k 0 ≤ 57)
  pub shortest : 0 < n → get_or (decimal n) 0 0 ≡ 48 → ⊥

abbrev pub DecimalReads : Type 0
DecimalReads = (n : ℕ) → Numeral n

-- each promise allows one outcome
abbrev pub HeadOnce : Type 0
HeadOnce = (version count : ℕ) (line : List ℕ) (a b : Told) (x y : List ℕ) → Head version count line a x → Head version count line b y → (a ≡ b) × (x ≡ y)

abbrev pub RecordOnce : Type 0
RecordOnce = (r line : List ℕ) (a b : Told) (x y : List ℕ) → Record r line a x → Record r line b y → (a ≡ b) × (x ≡ y)

abbrev pub TellOnce : Type 0
TellOnce = (refusal : Verdict) (line : List ℕ) (a b : Told) (x y : List ℕ) → Tell refusal line a x → Tell refusal line b y → (a ≡ b) × (x ≡ y)
