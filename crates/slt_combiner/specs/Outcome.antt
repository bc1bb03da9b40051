-- The AICH combiner for C: the answer of `combiner::combine`, packed, and the same lent results (docs/RULES.md, 'Packed answers').
-- Assumes nothing.
use Rattle.std.specs.Prelude.{ℕ, ◌≡◌, List, ℤ, length}
use Rattle.run.specs.Verdicts.{leaves}
use Rattle.correlator.specs.declared.Complex.{Complex}
use Rattle.correlator.specs.Rule.{numbers_of}
use Rattle.combiner.specs.Outcome.{combine_verdict}
use Rattle.packed.specs.Rule.{packed}

pub record AichCombine (h1 h2 : Complex) (received results : List ℤ) (answer : ℕ) (results_after : List ℤ) : Type 0 where
  pub answer_is : answer ≡ packed (combine_verdict h1 h2 received (length results)) 0
  pub results_is : results_after ≡ leaves (combine_verdict h1 h2 received (length results)) (numbers_of h1 h2 received) results
