-- What each C function on samples answers: the answer of `sample::take` at its setting, with number and place packed (docs/RULES.md, 'Packed answers') and the two parts beside them. An
-- enum cannot cross to C, so there is a function for each case of the setting.
-- Assumes nothing.
use Rattle.std.specs.Prelude.{ℕ, ◌≡◌, ℤ, Float}
use Rattle.run.specs.Verdicts.{leaves}
use Rattle.sample.specs.declared.Setting.{Setting}
use Rattle.sample.specs.declared.Setting.TheVariants.{Off, Shared, Each}
use Rattle.sample.specs.Answers.{Sampled}
use Rattle.sample.specs.Rule.{plus_zero, part}
use Rattle.sample.specs.Outcome.{take_verdict}
use Rattle.slt_sample.specs.declared.SltSample.{SltSample}
use Rattle.packed.specs.Rule.{packed}

-- an answer of `sample::take` as C gets it
abbrev pub packed_sample : Sampled → SltSample
packed_sample sampled =
    record { answer = packed sampled.verdict 0; inphase = sampled.sample.inphase; quadrature = sampled.sample.quadrature }

pub record SampleAt (i q : ℤ) (setting : Setting) (antenna : ℕ) (answer : SltSample) : Type 0 where
  pub answer_is : answer.answer ≡ packed (take_verdict i q setting antenna) 0
  pub inphase_is : answer.inphase ≡ leaves (take_verdict i q setting antenna) (part setting antenna i) plus_zero
  pub quadrature_is : answer.quadrature ≡ leaves (take_verdict i q setting antenna) (part setting antenna q) plus_zero

abbrev pub SampleOff : ℤ → ℤ → ℕ → SltSample → Type 0
SampleOff i q antenna answer = SampleAt i q Off antenna answer

abbrev pub SampleShared : ℤ → ℤ → Float → ℕ → SltSample → Type 0
SampleShared i q level antenna answer = SampleAt i q (Shared level) antenna answer

abbrev pub SampleEach : ℤ → ℤ → Float → Float → ℕ → SltSample → Type 0
SampleEach i q first second antenna answer = SampleAt i q (Each first second) antenna answer
