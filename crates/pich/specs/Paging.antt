-- What `q` answers: its verdict and the number of the indicator, 0 where it refuses.
-- Assumes nothing.
use Rattle.std.specs.Prelude.{Result, Ok, Err}
use Rattle.run.specs.Verdict.{Verdict}
use Rattle.run.specs.declared.refusal.Refusal.{Refusal}
use Rattle.run.specs.Answers.{number_of}
use Rattle.run.specs.Verdicts.{refused, done}
use Rattle.pich.specs.declared.Indicator.{Indicator}

pub record Paging : Type 0 where
  pub verdict : Verdict
  pub q : Indicator

abbrev pub paging_of : Result Indicator Refusal → Paging
paging_of (Ok q) = record { verdict = done; q = q }
paging_of (Err r) = record { verdict = refused (number_of r.reason) r.place; q = record { 0 = 0 } }
