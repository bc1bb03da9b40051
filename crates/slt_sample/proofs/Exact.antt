-- The theorems of specs/Exact.antt, and the law that the proofs of its three functions share.
-- Assumes nothing.
use mathlib.Core.Path.{◌≡◌, ap, ◌∙◌}
use Prim.Native.Nat.{ℕ}
use lib.Dec.{lit<}
use lib.IntN.{ℤ}
use Rattle.run.specs.Verdict.{Verdict}
use Rattle.run.specs.Verdicts.{Narrow}
use Rattle.run.proofs.Chain.{one_outcome}
use Rattle.sample.specs.declared.Setting.{Setting}
use Rattle.sample.specs.Answers.{Sampled}
use Rattle.sample.specs.Outcome.{Take}
use Rattle.sample.proofs.Exact as sample-exact
use Rattle.slt_sample.specs.declared.SltSample.{SltSample}
use Rattle.packed.specs.Rule.{packed}
use Rattle.slt_sample.specs.Outcome.{packed_sample, SampleAt}
use Rattle.slt_sample.specs.Exact.{SampleTells, SampleOnce}
use Rattle.packed.proofs.Exact.{unpacks}

-- the answer of `sample::take` fits the fields
pub taken_narrow : {i q : ℤ} {setting : Setting} {antenna : ℕ} {sampled : Sampled} → Take i q setting antenna sampled → Narrow sampled.verdict
taken_narrow {i} {q} {setting} {antenna} t = rw t.verdict_is ((sample-exact.packs).take_narrow i q setting antenna)

-- .. and packed it is what the promise says
pub sample_at : {i q : ℤ} {setting : Setting} {antenna : ℕ} {sampled : Sampled} {answer : SltSample}
    → Take i q setting antenna sampled → answer ≡ packed_sample sampled → SampleAt i q setting antenna answer
sample_at t e =
    record {
      answer_is = ap (λ (a : SltSample). a.answer) e ∙ ap (λ (v : Verdict). packed v 0) t.verdict_is;
      inphase_is = ap (λ (a : SltSample). a.inphase) e ∙ t.inphase_is;
      quadrature_is = ap (λ (a : SltSample). a.quadrature) e ∙ t.quadrature_is;
    }

pub sample_tells : SampleTells
sample_tells i q setting antenna answer p = rw p.answer_is (unpacks _ 0 ((sample-exact.packs).take_narrow i q setting antenna) (lit< tt))

pub sample_once : SampleOnce
sample_once i q setting antenna a b p r =
    λ k.
    record {
      answer = one_outcome p.answer_is r.answer_is k;
      inphase = one_outcome p.inphase_is r.inphase_is k;
      quadrature = one_outcome p.quadrature_is r.quadrature_is k;
    }
