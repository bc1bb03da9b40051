-- What an answer of a C call tells, and that a promise allows one outcome. Proved in proofs/Exact.antt, each under its name in small letters.
-- Assumes nothing.
use Rattle.std.specs.Prelude.{ℕ, ◌≡◌, List, length, ℤ}
use Rattle.sttd.specs.Outcome.{values_verdict}
use Rattle.packed.specs.Exact.{Tells}
use Rattle.slt_sttd.specs.Outcome.{short_verdict, SttdDigits, SttdValues}

-- what an answer tells of the call
pub record SttdTells : Type 0 where
  pub digits : (input out : List ℕ) (answer : ℕ) (after : List ℕ) → SttdDigits input out answer after → Tells answer (short_verdict input (length out)) 0
  pub values : (input out : List ℤ) (answer : ℕ) (after : List ℤ) → SttdValues input out answer after → Tells answer (values_verdict input (length out)) 0

-- two outcomes that a promise allows are equal
pub record SttdOnce : Type 0 where
  pub digits : (input out : List ℕ) (a b : ℕ) (x y : List ℕ) → SttdDigits input out a x → SttdDigits input out b y → (a ≡ b) × (x ≡ y)
  pub values : (input out : List ℤ) (a b : ℕ) (x y : List ℤ) → SttdValues input out a x → SttdValues input out b y → (a ≡ b) × (x ≡ y)
