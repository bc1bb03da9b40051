-- docs/RULES.md, 'Uplink DPDCH': what each call answers and leaves in each lent run, for all inputs.
-- Assumes nothing.
use Rattle.std.specs.Prelude.{ℕ, ◌*◌, ◌≡◌, List, [], ◌∷◌, length, eqb}
use Rattle.run.specs.Verdict.{Verdict}
use Rattle.run.specs.First.{at_most}
use Rattle.run.specs.Refusals.{digit_refused}
use Rattle.run.specs.Verdicts.{or_else, each, leaves}
use Rattle.dpch.specs.Heads.{frame_head}
use Rattle.dpch.specs.Uplink.{dpdch_size}
use Rattle.dpdch.specs.Rule.{slot_of, data_in, frame_of, frame_data_in}

-- of so many slots, a run that is looked at and the length of one that is to be written: 1, 3 (the one, the other), 4 above 1
unfoldable pub slots_verdict : ℕ → ℕ → List ℕ → ℕ → Verdict
slots_verdict slots format input outLength =
    or_else (frame_head 6 format (eqb (length input) (slots * dpdch_size format) ∷ eqb outLength (slots * dpdch_size format) ∷ []))
    (each 0 digit_refused (at_most 1 input) (length input))

-- map: 1, 3 (data, output), 4 above 1; of a slot and of a frame's whole runs
abbrev pub map_verdict : ℕ → List ℕ → ℕ → Verdict
map_verdict format d outLength = slots_verdict 1 format d outLength

abbrev pub frame_map_verdict : ℕ → List ℕ → ℕ → Verdict
frame_map_verdict format d outLength = slots_verdict 15 format d outLength

-- read: 1, 3 (slot or frame, data), 4 above 1
abbrev pub read_verdict : ℕ → List ℕ → ℕ → Verdict
read_verdict format xs dataLength = slots_verdict 1 format xs dataLength

abbrev pub frame_read_verdict : ℕ → List ℕ → ℕ → Verdict
frame_read_verdict format xs dataLength = slots_verdict 15 format xs dataLength

pub record Map (format : ℕ) (d out : List ℕ) (answer : Verdict) (out_after : List ℕ) : Type 0 where
  pub verdict_is : answer ≡ map_verdict format d (length out)
  pub out_is : out_after ≡ leaves (map_verdict format d (length out)) (slot_of d) out

pub record Read (format : ℕ) (xs d : List ℕ) (answer : Verdict) (d_after : List ℕ) : Type 0 where
  pub verdict_is : answer ≡ read_verdict format xs (length d)
  pub data_is : d_after ≡ leaves (read_verdict format xs (length d)) (data_in format xs) d

pub record FrameMap (format : ℕ) (d out : List ℕ) (answer : Verdict) (out_after : List ℕ) : Type 0 where
  pub verdict_is : answer ≡ frame_map_verdict format d (length out)
  pub out_is : out_after ≡ leaves (frame_map_verdict format d (length out)) (frame_of format d) out

pub record FrameRead (format : ℕ) (xs d : List ℕ) (answer : Verdict) (d_after : List ℕ) : Type 0 where
  pub verdict_is : answer ≡ frame_read_verdict format xs (length d)
  pub data_is : d_after ≡ leaves (frame_read_verdict format xs (length d)) (frame_data_in format xs) d

-- the private function behind the four: the digits of so many slots are carried from one run to the other
pub record Carry (slots format : ℕ) (input out : List ℕ) (answer : Verdict) (out_after : List ℕ) : Type 0 where
  pub verdict_is : answer ≡ slots_verdict slots format input (length out)
  pub out_is : out_after ≡ leaves (slots_verdict slots format input (length out)) input out
