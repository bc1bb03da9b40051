-- What the private functions of a frame ask of their callers and say of their answers. No public call asks anything.
-- Assumes nothing.
use Rattle.std.specs.Prelude.{ℕ, ◌*◌, ◌<◌, ◌≤◌, ◌≡◌, List}
use Rattle.run.specs.Parts.{part}
use Rattle.dpch.specs.Formats.{format_of}
use Rattle.slot.specs.Rule.{data_size, command_in}

-- the runs of a frame's fields have their lengths
pub record Ready (format data_length tfci_length commands_length : ℕ) : Type 0 where
  pub data_ok : data_length ≡ 15 * data_size (format_of format)
  pub tfci_ok : tfci_length ≡ 15 * (format_of format).tfci
  pub commands_ok : commands_length ≡ 15

-- .. and so has the frame
pub record Room (format data_length tfci_length commands_length frame_length : ℕ) : Type 0 where
  pub format_ok : format ≤ 16
  pub fields : Ready format data_length tfci_length commands_length
  pub frame_ok : frame_length ≡ 15 * (format_of format).slot

-- the commands of a frame that was accepted are bits
pub record Bits (format : ℕ) (xs : List ℕ) : Type 0 where
  pub bit : (k : ℕ) → k < 15 → command_in (format_of format) (part k (format_of format).slot xs) ≤ 1
