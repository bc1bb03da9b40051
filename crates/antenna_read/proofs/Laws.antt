-- What antenna 1's stream implies, once it is made in a run of the slot's length.
-- Assumes nothing.
use mathlib.Core.Path.{◌≡◌}
use mathlib.Core.List.{List}
use Prim.Native.Nat.{ℕ}
use borrow.Author.Tests.{eq-eqb}
use lib.ListN.{length}
use Rattle.run.specs.First.{Every, agree}
use Rattle.dpch.specs.Formats.{format_of}
use Rattle.antenna.specs.Rule.{second_of}
use Rattle.antenna.specs.Outcome.{second_over}

-- runs of the slot's length
pub made : (format slot : ℕ) (first out : List ℕ) → length first ≡ (format_of format).slot → length out ≡ (format_of format).slot → second_over format slot first out ≡ second_of format slot first
unfolding second_over
made format slot first out p q = rw (eq-eqb _ _ p, eq-eqb _ _ q)

-- what agrees with the run agrees with what stands in it
pub made_agrees : (run expected second : List ℕ) (n : ℕ) → run ≡ expected → length expected ≡ n → Every (agree run second) (length run) → Every (agree expected second) n
made_agrees run expected second n e l all = rw l at (rw e at all)
