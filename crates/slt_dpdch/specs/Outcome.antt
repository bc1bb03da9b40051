-- The uplink DPDCH for C: the answer of the call behind each function, packed, and the same lent runs (docs/RULES.md, 'Packed answers').
-- Assumes nothing.
use Rattle.std.specs.Prelude.{ℕ, ◌≡◌, List, length}
use Rattle.run.specs.Verdicts.{leaves}
use Rattle.dpdch.specs.Rule.{slot_of, data_in, frame_of, frame_data_in}
use Rattle.dpdch.specs.Outcome.{map_verdict, read_verdict, frame_map_verdict, frame_read_verdict}
use Rattle.packed.specs.Rule.{packed}

pub record DpdchMap (format : ℕ) (d out : List ℕ) (answer : ℕ) (out_after : List ℕ) : Type 0 where
  pub answer_is : answer ≡ packed (map_verdict format d (length out)) 0
  pub out_is : out_after ≡ leaves (map_verdict format d (length out)) (slot_of d) out

pub record DpdchRead (format : ℕ) (xs d : List ℕ) (answer : ℕ) (d_after : List ℕ) : Type 0 where
  pub answer_is : answer ≡ packed (read_verdict format xs (length d)) 0
  pub data_is : d_after ≡ leaves (read_verdict format xs (length d)) (data_in format xs) d

pub record DpdchFrameMap (format : ℕ) (d out : List ℕ) (answer : ℕ) (out_after : List ℕ) : Type 0 where
  pub answer_is : answer ≡ packed (frame_map_verdict format d (length out)) 0
  pub out_is : out_after ≡ leaves (frame_map_verdict format d (length out)) (frame_of format d) out

pub record DpdchFrameRead (format : ℕ) (xs d : List ℕ) (answer : ℕ) (d_after : List ℕ) : Type 0 where
  pub answer_is : answer ≡ packed (frame_read_verdict format xs (length d)) 0
  pub data_is : d_after ≡ leaves (frame_read_verdict format xs (length d)) (frame_data_in format xs) d
