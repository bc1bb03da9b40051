-- What the calls and parts that give numbers tell: the verdict, and the numbers beside it.
-- Assumes nothing.
use Rattle.std.specs.Prelude.{ℕ, cond, List, length, Result, Ok, Err}
use Rattle.run.specs.Verdict.{Verdict}
use Rattle.run.specs.declared.refusal.Refusal.{Refusal}
use Rattle.run.specs.Answers.{number_of, verdict_of, value_of}
use Rattle.run.specs.Verdicts.{refused, done}
use Rattle.bank.specs.declared.Place.{Place}
use Rattle.bank.specs.declared.Found.{Found as Told}
use Rattle.bank.specs.Slots.{fetched, taken}
use Rattle.bank.specs.Layout.{slots_in, is_bank, place_of}

-- a verdict with a number that the call answers, 0 where it is refused
pub record Counted : Type 0 where
  pub verdict : Verdict
  pub count : ℕ

abbrev pub counted_of : Result ℕ Refusal → Counted
counted_of answer = record { verdict = verdict_of answer; count = value_of answer }

-- what the search for a slot tells: whether it is there, the total taken, where the slot begins and how many digits it has. The code declares the record, with these four fields
abbrev pub Found : Type 0
Found = Told

-- .. of a slot that is there; where the search refuses, the numbers are those of the bytes that it was lent
abbrev pub found_of : List ℕ → ℕ → Result Place Refusal → Found
found_of bank number (Ok place) = record { verdict = done; total = place.total; start = place.start; length = place.length }
found_of bank number (Err r) =
    record {
      verdict = refused (number_of r.reason) r.place;
      total = cond (is_bank bank) (taken (slots_in bank)) 0;
      start = cond (is_bank bank) (place_of number (slots_in bank)) 0;
      length = cond (is_bank bank) (length (fetched number (slots_in bank))) 0;
    }
