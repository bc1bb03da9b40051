-- What `take` tells: the verdict, and the sample, +0 and +0 where refused.
-- Assumes nothing.
use Rattle.std.specs.Prelude.{Result, Ok, Err}
use Rattle.run.specs.Verdict.{Verdict}
use Rattle.run.specs.declared.refusal.Refusal.{Refusal}
use Rattle.run.specs.Answers.{verdict_of}
use Rattle.sample.specs.declared.Sample.{Sample}
use Rattle.sample.specs.Rule.{plus_zero}

pub record Sampled : Type 0 where
  pub verdict : Verdict
  pub sample : Sample

abbrev pub sample_of : Result Sample Refusal → Sample
sample_of (Ok sample) = sample
sample_of (Err _) = record { inphase = plus_zero; quadrature = plus_zero }

abbrev pub sampled_of : Result Sample Refusal → Sampled
sampled_of answer = record { verdict = verdict_of answer; sample = sample_of answer }
