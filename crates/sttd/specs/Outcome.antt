-- docs/RULES.md, 'STTD': what each call answers and leaves in each lent run, for all inputs.
-- Assumes nothing.
use Rattle.std.specs.Prelude.{ℕ, ◌*◌, ◌/◌, ◌%◌, min, ◌≡◌, Bool, List, length, take, eqb, ℤ, pos, negsuc, neg_ℤ}
use Rattle.run.specs.Verdict.{Verdict}
use Rattle.run.specs.First.{at_most}
use Rattle.run.specs.Ranges.{between, in_range}
use Rattle.run.specs.Refusals.{length_refused, digit_refused, range_refused}
use Rattle.run.specs.Verdicts.{or_else, unless, each, leaves}
use Rattle.run.specs.Written.{over}
use Rattle.sttd.specs.Rule.{sttd, bar_digit}

-- digits: length a multiple of 4, 0 included, the output as long as the input; 3 (input, output), 4 above 2
unfoldable pub digits_verdict : List ℕ → ℕ → Verdict
digits_verdict input outLength =
    or_else (unless (eqb (length input % 4) 0) length_refused 0)
    (or_else (unless (eqb outLength (length input)) length_refused 1)
    (each 0 digit_refused (at_most 2 input) (length input)))

pub record Digits (input out : List ℕ) (answer : Verdict) (out_after : List ℕ) : Type 0 where
  pub verdict_is : answer ≡ digits_verdict input (length out)
  pub out_is : out_after ≡ leaves (digits_verdict input (length out)) (sttd bar_digit input) out

-- an AICH value is -16 to 16; and the one at a place of a run is
abbrev pub value_in : ℤ → Bool
value_in = between (negsuc 15) (pos 16)

abbrev pub values_in : List ℤ → ℕ → Bool
values_in = in_range (negsuc 15) (pos 16)

-- values: exactly 32; 3 (input, output), then 11 at the index
unfoldable pub values_verdict : List ℤ → ℕ → Verdict
values_verdict input outLength =
    or_else (unless (eqb (length input) 32) length_refused 0)
    (or_else (unless (eqb outLength 32) length_refused 1)
    (each 0 range_refused (values_in input) (length input)))

pub record Values (input out : List ℤ) (answer : Verdict) (out_after : List ℤ) : Type 0 where
  pub verdict_is : answer ≡ values_verdict input (length out)
  pub out_is : out_after ≡ leaves (values_verdict input (length out)) (sttd neg_ℤ input) out

-- the part `encode`: as many whole blocks as both runs have, encoded over the front of out; what lies behind them is as it was
unfoldable pub encoded_over : List ℕ → List ℕ → List ℕ
encoded_over input out = over (sttd bar_digit (take (4 * (min (length input) (length out) / 4)) input)) out
