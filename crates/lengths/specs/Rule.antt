-- docs/RULES.md, 'Lengths of runs': the lengths of the runs that a mapper is lent, in the order in which it tells refusal 3 of them.
-- Assumes nothing.
use Rattle.std.specs.Prelude.{ℕ, ◌*◌, List, [], ◌∷◌}
use Rattle.dpch.specs.Formats.{format_of}
use Rattle.dpch.specs.Compressed.{format_in}
use Rattle.dpch.specs.Uplink.{dpdch_size, dpcch_format}
use Rattle.slot.specs.Rule.{data_size}
use Rattle.compressed.specs.Rule.{transmitted}
use Rattle.hspdsch.specs.Rule.{size}

-- a slot of the downlink DPCH: data, TFCI, slot (TS 25.211, table 11)
unfoldable pub slot_lengths_of : ℕ → List ℕ
slot_lengths_of format = data_size (format_of format) ∷ (format_of format).tfci ∷ (format_of format).slot ∷ []

-- a frame of it: data, TFCI, frame, commands
unfoldable pub frame_lengths_of : ℕ → List ℕ
frame_lengths_of format = 15 * data_size (format_of format) ∷ 15 * (format_of format).tfci ∷ 15 * (format_of format).slot ∷ 15 ∷ []

-- a compressed frame of it: data, TFCI, frame, commands, where the frame alone has the missing slots
unfoldable pub compressed_lengths_of : ℕ → ℕ → ℕ → List ℕ
compressed_lengths_of kind format missing =
    transmitted missing * data_size (format_in kind format)
    ∷ transmitted missing * (format_in kind format).tfci
    ∷ 15 * (format_in kind format).slot
    ∷ transmitted missing
    ∷ []

-- so many slots of the uplink DPDCH: data, and the slots (table 1)
unfoldable pub dpdch_lengths_of : ℕ → ℕ → List ℕ
dpdch_lengths_of slots format = slots * dpdch_size format ∷ slots * dpdch_size format ∷ []

-- a slot of the uplink DPCCH: TFCI, FBI, slot (table 2)
unfoldable pub dpcch_lengths_of : ℕ → List ℕ
dpcch_lengths_of format = (dpcch_format format).tfci ∷ (dpcch_format format).fbi ∷ (dpcch_format format).slot ∷ []

-- a frame of it: TFCI, FBI, frame, commands
unfoldable pub dpcch_frame_lengths_of : ℕ → List ℕ
dpcch_frame_lengths_of format = 15 * (dpcch_format format).tfci ∷ 15 * (dpcch_format format).fbi ∷ 15 * (dpcch_format format).slot ∷ 15 ∷ []

-- a subframe of the HS-PDSCH: data, antenna 1, antenna 2 (table 26)
unfoldable pub hspdsch_lengths_of : ℕ → List ℕ
hspdsch_lengths_of format = size format ∷ size format ∷ size format ∷ []
