-- What a call here tells: its verdict and the length, 0 where it refuses.
-- Assumes nothing.
use Rattle.std.specs.Prelude.{ℕ, Result}
use Rattle.run.specs.Verdict.{Verdict}
use Rattle.run.specs.declared.refusal.Refusal.{Refusal}
use Rattle.run.specs.Answers.{verdict_of, value_of}

pub record Length : Type 0 where
  pub verdict : Verdict
  pub length : ℕ

abbrev pub length_of : Result ℕ Refusal → Length
length_of answer = record { verdict = verdict_of answer; length = value_of answer }
