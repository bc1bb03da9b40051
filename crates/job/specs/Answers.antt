-- docs/RULES.md, 'Job file and program': what the calls tell. A call that refuses tells 0 beside its verdict.
-- Assumes nothing.
use Rattle.std.specs.Prelude.{ℕ, ◌≡◌, Result, Ok, Err}
use Rattle.run.specs.Verdict.{Verdict}
use Rattle.run.specs.declared.refusal.Refusal.{Refusal}
use Rattle.run.specs.Answers.{number_of}
use Rattle.run.specs.Verdicts.{refused, done}
use Rattle.job.specs.declared.Opened.{Opened as WasOpened}
use Rattle.job.specs.declared.Ran.{Ran as WasRun}
use Rattle.job.specs.declared.fault.Fault.{Fault}
use Rattle.job.specs.Faults.{verdict_of}

-- how many bytes the file may have, the number of records, where the first begins, and how long the line is; 0 where refused
pub record Opened : Type 0 where
  pub verdict : Verdict
  pub limit : ℕ
  pub count : ℕ
  pub next : ℕ
  pub length : ℕ

abbrev pub opened_of : Result WasOpened Refusal → Opened
opened_of (Ok o) = record { verdict = done; limit = o.limit; count = o.count; next = o.next; length = o.length }
opened_of (Err r) = record { verdict = refused (number_of r.reason) r.place; limit = 0; count = 0; next = 0; length = 0 }

-- how many bytes the record has, and how long the line is; 0 where refused
pub record Ran : Type 0 where
  pub verdict : Verdict
  pub size : ℕ
  pub length : ℕ

abbrev pub ran_of : Result WasRun Refusal → Ran
ran_of (Ok r) = record { verdict = done; size = r.size; length = r.length }
ran_of (Err r) = record { verdict = refused (number_of r.reason) r.place; size = 0; length = 0 }

-- a fault is refused with its number and its offset
abbrev pub Refuses : Fault → Refusal → Type 0
Refuses fault r = refused (number_of r.reason) r.place ≡ verdict_of fault
