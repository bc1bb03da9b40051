-- What the calls of the desk tell: the verdict, and the desk afterwards or a distance.
-- Assumes nothing.
use Rattle.std.specs.Prelude.{ℕ, Result, Ok, Err}
use Rattle.run.specs.Verdict.{Verdict}
use Rattle.run.specs.declared.refusal.Refusal.{Refusal}
use Rattle.run.specs.Answers.{verdict_of, value_of}
use Rattle.desk.specs.declared.Desk.{Desk}

-- the desk afterwards, as it was where refused
pub record Served : Type 0 where
  pub verdict : Verdict
  pub desk : Desk

abbrev pub desk_of : Desk → Result Desk Refusal → Desk
desk_of before (Ok after) = after
desk_of before (Err _) = before

abbrev pub served_of : Desk → Result Desk Refusal → Served
served_of before answer = record { verdict = verdict_of answer; desk = desk_of before answer }

-- a distance in chips, 0 where refused
pub record Distance : Type 0 where
  pub verdict : Verdict
  pub chips : ℕ

abbrev pub distance_of : Result ℕ Refusal → Distance
distance_of answer = record { verdict = verdict_of answer; chips = value_of answer }
