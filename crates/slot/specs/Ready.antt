-- What the private writers and readers of fields ask of their callers, and what `sizes_of` answers. No public call asks anything.
-- Assumes nothing.
use Rattle.std.specs.Prelude.{ℕ, ◌<◌, ◌≤◌, ◌≡◌, length, get_or, take}
use Rattle.run.specs.Fields.{total}
use Rattle.dpch.specs.declared.Format.{Format}
use Rattle.dpch.specs.Formats.{widths}
use Rattle.dpch.specs.Compressed.{pilot_for, source_for}
use Rattle.slot.specs.declared.Sizes.{Sizes}
use Rattle.slot.specs.Rule.{data_size}

-- a pilot of so many bits is cut from what it is the beginning of
pub record PilotCut (kind bits slot : ℕ) : Type 0 where
  pub cut_from : pilot_for kind bits slot ≡ take bits (source_for kind bits slot)
  pub enough : bits ≤ length (source_for kind bits slot)

-- the fields fill a slot
pub record Sound (f : Format) : Type 0 where
  pub fills : total (widths f) ≡ f.slot
  pub short : f.slot ≤ 1280
  pub pilot : (slot : ℕ) → PilotCut f.kind f.pilot slot

-- a row of the table that is there: it is sound, its slots carry a command, and the pilot's digits are bits
pub record Row (f : Format) : Type 0 where
  pub sound : Sound f
  pub has_tpc : 0 < f.tpc
  pub pilot_bits : (slot : ℕ) → slot < 15 → (k : ℕ) → get_or (pilot_for f.kind f.pilot slot) k 0 ≤ 1

-- a run is a slot
pub record Whole (f : Format) (n : ℕ) : Type 0 where
  pub sound : Sound f
  pub slot_ok : n ≡ f.slot

-- the runs of the fields and of the slot have their lengths
pub record Ready (f : Format) (data_length tfci_length slot_length : ℕ) : Type 0 where
  pub sound : Sound f
  pub data_ok : data_length ≡ data_size f
  pub tfci_ok : tfci_length ≡ f.tfci
  pub slot_ok : slot_length ≡ f.slot

-- the lengths of one slot's runs
pub record SizesOf (f : Format) (s : Sizes) : Type 0 where
  pub data_is : s.«data» ≡ data_size f
  pub tfci_is : s.tfci ≡ f.tfci
  pub slot_is : s.slot ≡ f.slot
  pub data_short : s.«data» ≤ 1280
  pub tfci_short : s.tfci ≤ 1280
  pub slot_short : s.slot ≤ 1280
