-- The PICH for C: the answer of the call behind each function, packed, and the same lent runs (docs/RULES.md, 'Packed answers').
-- Assumes nothing.
use Rattle.std.specs.Prelude.{ℕ, ◌≡◌, List, length}
use Rattle.run.specs.Verdicts.{leaves}
use Rattle.pich.specs.Rule.{frame_of, indicators_in, q_of}
use Rattle.pich.specs.Outcome.{q_verdict, map_verdict, read_verdict}
use Rattle.packed.specs.Rule.{packed}

pub record PichQ (np pi sfn answer : ℕ) : Type 0 where
  pub answer_is : answer ≡ packed (q_verdict np (record { 0 = pi }) sfn) (leaves (q_verdict np (record { 0 = pi }) sfn) (q_of np pi sfn) 0)

pub record PichMap (np : ℕ) (indicators frame : List ℕ) (answer : ℕ) (frame_after : List ℕ) : Type 0 where
  pub answer_is : answer ≡ packed (map_verdict np indicators (length frame)) 0
  pub frame_is : frame_after ≡ leaves (map_verdict np indicators (length frame)) (frame_of np indicators) frame

pub record PichRead (np : ℕ) (frame indicators : List ℕ) (answer : ℕ) (indicators_after : List ℕ) : Type 0 where
  pub answer_is : answer ≡ packed (read_verdict np frame (length indicators)) 0
  pub indicators_is : indicators_after ≡ leaves (read_verdict np frame (length indicators)) (indicators_in np frame) indicators
