-- How the code finds the desk afterwards and the indicators: what its private functions promise. Nothing here is part of a public promise.
-- Those that ask are turned round until they stand in circular order. Once the desk afterwards is known, those that ask are served up to its place: nobody has to be
-- counted for an indicator.
-- Assumes nothing.
use Rattle.std.specs.Prelude.{ℕ, ◌<◌, ◌≡◌, Bool, cond, List, Result, eqb, leb, ℤ, pos, negsuc}
use Rattle.run.specs.declared.refusal.Refusal.{Refusal}
use Rattle.run.specs.Answers.{verdict_of, value_of}
use Rattle.run.specs.Table.{tab}
use Rattle.run.specs.Verdicts.{leaves}
use Rattle.aich.specs.Rule.{offers}
use Rattle.desk.specs.Rule.{place_of, signature_at}
use Rattle.desk.specs.Outcome.{timing_verdict}

-- a number of 16 bits that has those that ask in circular order: bit p is the one at place p
pub record Turned (asks : ℕ → Bool) (last word : ℕ) : Type 0 where
  pub small : word < 65536
  pub digit : (p : ℕ) → p < 16 → offers word p ≡ asks (signature_at last p)

-- the indicator of signature s where the served stand at places up to q
unfoldable pub mark_of : (ℕ → Bool) → ℕ → ℕ → ℕ → ℤ
mark_of asks last q s = cond (asks s) (cond (leb (place_of last s) q) (pos 1) (negsuc 0)) (pos 0)

unfoldable pub marks_of : (ℕ → Bool) → ℕ → ℕ → List ℤ
marks_of asks last q = tab 16 (mark_of asks last q)

-- a distance of which there are two, for the timings 0 and 1
pub record DistanceIs (timing short long : ℕ) (answer : Result ℕ Refusal) : Type 0 where
  pub verdict_is : verdict_of answer ≡ timing_verdict timing
  pub chips_is : value_of answer ≡ leaves (timing_verdict timing) (cond (eqb timing 0) short long) 0
