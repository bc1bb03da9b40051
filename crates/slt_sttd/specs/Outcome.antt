-- STTD for C: the answer of the call behind each function, packed, and the same lent runs (docs/RULES.md, 'Packed answers').
-- Assumes nothing.
use Rattle.std.specs.Prelude.{ℕ, ◌≡◌, List, length, leb, ℤ, neg_ℤ}
use Rattle.run.specs.Verdicts.{leaves}
use Rattle.run.specs.Verdict.{Verdict}
use Rattle.run.specs.Refusals.{length_refused}
use Rattle.run.specs.Verdicts.{or_else, unless}
use Rattle.sttd.specs.Rule.{sttd, bar_digit}
use Rattle.sttd.specs.Outcome.{digits_verdict, values_verdict}
use Rattle.packed.specs.Rule.{packed}

-- a place has 32 bits in a packed answer, so a run of more than 4294967295 digits is refused as too long before any digit is looked at
abbrev pub short_verdict : List ℕ → ℕ → Verdict
short_verdict input outLength = or_else (unless (leb (length input) 4294967295) length_refused 0) (digits_verdict input outLength)

pub record SttdDigits (input out : List ℕ) (answer : ℕ) (out_after : List ℕ) : Type 0 where
  pub answer_is : answer ≡ packed (short_verdict input (length out)) 0
  pub out_is : out_after ≡ leaves (short_verdict input (length out)) (sttd bar_digit input) out

pub record SttdValues (input out : List ℤ) (answer : ℕ) (out_after : List ℤ) : Type 0 where
  pub answer_is : answer ≡ packed (values_verdict input (length out)) 0
  pub out_is : out_after ≡ leaves (values_verdict input (length out)) (sttd neg_ℤ input) out
