-- docs/RULES.md, 'Job file and program': what the calls tell, and the verdict of a refusal that is printed.
-- Assumes nothing.
use Rattle.std.specs.Prelude.{ℕ, Result}
use Rattle.run.specs.Verdict.{Verdict}
use Rattle.run.specs.declared.refusal.Refusal.{Refusal}
use Rattle.run.specs.Answers.{number_of, verdict_of, value_of}
use Rattle.run.specs.Verdicts.{refused}

-- how long the line is; 0 where refused
pub record Told : Type 0 where
  pub verdict : Verdict
  pub length : ℕ

abbrev pub told_of : Result ℕ Refusal → Told
told_of answer = record { verdict = verdict_of answer; length = value_of answer }

abbrev pub verdict_in : Refusal → Verdict
verdict_in r = refused (number_of r.reason) r.place
