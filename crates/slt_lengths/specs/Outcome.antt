-- The lengths of a mapper's runs for C: the answer of the call behind each function, packed; the length is the value (docs/RULES.md, 'Packed answers').
-- Assumes nothing.
use Rattle.std.specs.Prelude.{ℕ, ◌≡◌, List, get_or}
use Rattle.run.specs.Verdict.{Verdict}
use Rattle.run.specs.Verdicts.{leaves}
use Rattle.lengths.specs.Outcome.{told_verdict}
use Rattle.packed.specs.Rule.{packed}

pub record LengthTold (head : Verdict) (runs : List ℕ) (run answer : ℕ) : Type 0 where
  pub answer_is : answer ≡ packed (told_verdict head runs run) (leaves (told_verdict head runs run) (get_or runs run 0) 0)
