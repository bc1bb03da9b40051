-- docs/RULES.md, 'Lengths of runs': what each call answers, for all inputs. Nothing is lent.
-- Assumes nothing.
use Rattle.std.specs.Prelude.{ℕ, ◌≡◌, List, length, get_or, ltb}
use Rattle.run.specs.Verdict.{Verdict}
use Rattle.run.specs.Refusals.{range_refused}
use Rattle.run.specs.Verdicts.{or_else, unless, leaves}
use Rattle.lengths.specs.Length.{Length}

-- what the mapper refuses before it looks at lengths, but for the slot's number, which no length hangs on: 1, of a compressed frame also 27; then 11 for a run that there is not
unfoldable pub told_verdict : Verdict → List ℕ → ℕ → Verdict
told_verdict head runs run = or_else head (unless (ltb run (length runs)) range_refused 0)

pub record Told (head : Verdict) (runs : List ℕ) (run : ℕ) (answer : Length) : Type 0 where
  pub verdict_is : answer.verdict ≡ told_verdict head runs run
  pub length_is : answer.length ≡ leaves (told_verdict head runs run) (get_or runs run 0) 0
