-- What a reader of slots tells: its verdict and the TPC command, 0 where it refuses.
-- Assumes nothing.
use Rattle.std.specs.Prelude.{ℕ, Result}
use Rattle.run.specs.Verdict.{Verdict}
use Rattle.run.specs.declared.refusal.Refusal.{Refusal}
use Rattle.run.specs.Answers.{verdict_of, value_of}

pub record Command : Type 0 where
  pub verdict : Verdict
  pub tpc : ℕ

abbrev pub command_of : Result ℕ Refusal → Command
command_of answer = record { verdict = verdict_of answer; tpc = value_of answer }
