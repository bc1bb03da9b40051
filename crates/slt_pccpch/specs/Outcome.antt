-- The P-CCPCH for C: the answer of the call behind each function, packed, and the same lent runs (docs/RULES.md, 'Packed answers').
-- Assumes nothing.
use Rattle.std.specs.Prelude.{ℕ, ◌≡◌, List, length}
use Rattle.run.specs.Verdicts.{leaves}
use Rattle.pccpch.specs.Rule.{frame_of, second_of, data_in}
use Rattle.pccpch.specs.Outcome.{map_verdict, read_verdict}
use Rattle.packed.specs.Rule.{packed}

pub record PccpchMap (d antenna1 antenna2 : List ℕ) (answer : ℕ) (antenna1_after antenna2_after : List ℕ) : Type 0 where
  pub answer_is : answer ≡ packed (map_verdict d (length antenna1) (length antenna2)) 0
  pub antenna1_is : antenna1_after ≡ leaves (map_verdict d (length antenna1) (length antenna2)) (frame_of d) antenna1
  pub antenna2_is : antenna2_after ≡ leaves (map_verdict d (length antenna1) (length antenna2)) (second_of d) antenna2

pub record PccpchRead (antenna1 antenna2 d : List ℕ) (answer : ℕ) (d_after : List ℕ) : Type 0 where
  pub answer_is : answer ≡ packed (read_verdict antenna1 antenna2 (length d)) 0
  pub data_is : d_after ≡ leaves (read_verdict antenna1 antenna2 (length d)) (data_in antenna1) d
