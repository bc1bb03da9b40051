-- What the private functions of a compressed frame ask of their callers. No public call asks anything.
-- Assumes nothing.
use Rattle.std.specs.Prelude.{ℕ, ◌+◌, ◌*◌, ◌<◌, ◌≤◌, ◌≡◌, true, List, length, get_or}
use Rattle.run.specs.Parts.{part}
use Rattle.dpch.specs.declared.Format.{Format}
use Rattle.slot.specs.declared.Sizes.{Sizes}
use Rattle.slot.specs.Rule.{data_size, command_in}
use Rattle.slot.specs.Ready.{SizesOf}
use Rattle.compressed.specs.Rule.{transmitted, number_of, gap_stands}

-- the runs of the fields have their lengths
pub record Ready (f : Format) (missing data_length tfci_length commands_length : ℕ) : Type 0 where
  pub data_ok : data_length ≡ transmitted missing * data_size f
  pub tfci_ok : tfci_length ≡ transmitted missing * f.tfci
  pub commands_ok : commands_length ≡ transmitted missing

-- .. and so has the frame; the table has the row, and it permits the gap, which ends by slot 14
pub record Room (f : Format) (first missing data_length tfci_length commands_length frame_length : ℕ) : Type 0 where
  pub there : 0 < f.kind
  pub stands : gap_stands f first missing ≡ true
  pub gap_ok : first + missing ≤ 15
  pub fields : Ready f missing data_length tfci_length commands_length
  pub frame_ok : frame_length ≡ 15 * f.slot

-- the commands of a frame that was accepted are bits
pub record Bits (f : Format) (first missing : ℕ) (xs : List ℕ) : Type 0 where
  pub bit : (i : ℕ) → i < transmitted missing → command_in f (part (number_of first missing i) f.slot xs) ≤ 1

-- the i-th transmitted slot finds its command and its parts of data and TFCI in the runs, and the slot is lent whole
pub record Turn (f : Format) (s : Sizes) (i data_length tfci_length commands_length slot_length : ℕ) : Type 0 where
  pub there : 0 < f.kind
  pub sizes : SizesOf f s
  pub slot_ok : slot_length ≡ f.slot
  pub data_room : i * s.«data» + s.«data» ≤ data_length
  pub tfci_room : i * s.tfci + s.tfci ≤ tfci_length
  pub command_room : i < commands_length
  pub data_small : i * s.«data» + s.«data» ≤ 20480
  pub tfci_small : i * s.tfci + s.tfci ≤ 20480

-- no digit of a run is below
abbrev pub NoneBelow : ℕ → List ℕ → Type 0
NoneBelow low s = (k : ℕ) → k < length s → low ≤ get_or s k 0
