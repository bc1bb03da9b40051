-- What an answer of a C call tells, and that a promise allows one outcome. Proved in proofs/Exact.antt, each under its name in small letters.
-- Assumes nothing.
use Rattle.std.specs.Prelude.{ℕ, ◌≡◌, ℤ}
use Rattle.sample.specs.declared.Setting.{Setting}
use Rattle.sample.specs.Outcome.{take_verdict}
use Rattle.slt_sample.specs.declared.SltSample.{SltSample}
use Rattle.packed.specs.Exact.{Tells}
use Rattle.slt_sample.specs.Outcome.{SampleAt}

-- number and place are had back from the answer, and its value is 0
abbrev pub SampleTells : Type 0
SampleTells =
    (i q : ℤ) (setting : Setting) (antenna : ℕ) (answer : SltSample)
    → SampleAt i q setting antenna answer → Tells answer.answer (take_verdict i q setting antenna) 0

-- two outcomes that the promise allows are equal
abbrev pub SampleOnce : Type 0
SampleOnce =
    (i q : ℤ) (setting : Setting) (antenna : ℕ) (a b : SltSample) → SampleAt i q setting antenna a → SampleAt i q setting antenna b → a ≡ b
