-- What the private functions of the DPCCH ask of their callers, and what the lookups of the pilot answer. No public call asks anything.
-- Assumes nothing.
use Rattle.std.specs.Prelude.{ℕ, ◌*◌, ◌≤◌, ◌<◌, ◌≡◌, cond, List, length, get_or, take, drop, replicate, eqb}
use Rattle.run.specs.First.{Every, at_most}
use Rattle.run.specs.Fields.{total}
use Rattle.run.specs.Parts.{part}
use Rattle.dpch.specs.declared.Dpcch.{Dpcch}
use Rattle.dpch.specs.Uplink.{dpcch_format, dpcch_widths}
use Rattle.dpch.specs.UplinkPilots.{table4, dpcch_pilot}
use Rattle.dpcch.specs.Rule.{command_in}

-- table 4's row of a slot, the patterns of 7 and of 8 bits; zeros where the table has none
unfoldable pub pilot_row : ℕ → List ℕ
pilot_row slot = get_or table4 slot (replicate 15 0)

-- where in that row the pilot of so many bits begins: those of 6 and of 5 bits stand in that of 7
unfoldable pub pilot_start : ℕ → ℕ
pilot_start bits = cond (eqb bits 8) 7 (cond (eqb bits 5) 1 0)

-- what a pilot of so many bits is the beginning of
unfoldable pub pilot_source : ℕ → ℕ → List ℕ
pilot_source bits slot = drop (pilot_start bits) (pilot_row slot)

-- a pilot of so many bits is cut from it
pub record PilotCut (bits slot : ℕ) : Type 0 where
  pub cut_from : dpcch_pilot bits slot ≡ take bits (pilot_source bits slot)
  pub enough : bits ≤ length (pilot_source bits slot)

-- the fields fill a slot
pub record Sound (f : Dpcch) : Type 0 where
  pub fills : total (dpcch_widths f) ≡ f.slot
  pub short : f.slot ≤ 10
  pub pilot : (slot : ℕ) → PilotCut f.pilot slot

-- a run is a slot
pub record Whole (f : Dpcch) (n : ℕ) : Type 0 where
  pub sound : Sound f
  pub slot_ok : n ≡ f.slot

-- the runs of the fields and of the slot have their lengths
pub record Ready (f : Dpcch) (tfci_length fbi_length slot_length : ℕ) : Type 0 where
  pub sound : Sound f
  pub tfci_ok : tfci_length ≡ f.tfci
  pub fbi_ok : fbi_length ≡ f.fbi
  pub slot_ok : slot_length ≡ f.slot

-- .. of a frame's fields
pub record FrameReady (format tfci_length fbi_length commands_length : ℕ) : Type 0 where
  pub tfci_ok : tfci_length ≡ 15 * (dpcch_format format).tfci
  pub fbi_ok : fbi_length ≡ 15 * (dpcch_format format).fbi
  pub commands_ok : commands_length ≡ 15

-- .. and of the frame
pub record Room (format tfci_length fbi_length commands_length frame_length : ℕ) : Type 0 where
  pub format_ok : format ≤ 3
  pub fields : FrameReady format tfci_length fbi_length commands_length
  pub frame_ok : frame_length ≡ 15 * (dpcch_format format).slot

-- the commands of a frame that was accepted are bits
pub record Bits (format : ℕ) (xs : List ℕ) : Type 0 where
  pub bit : (k : ℕ) → k < 15 → command_in (dpcch_format format) (part k (dpcch_format format).slot xs) ≤ 1

-- the digits of a frame's fields are bits
pub record FieldBits (tfci fbi commands : List ℕ) : Type 0 where
  pub tfci_bits : Every (at_most 1 tfci) (length tfci)
  pub fbi_bits : Every (at_most 1 fbi) (length fbi)
  pub commands_bits : Every (at_most 1 commands) (length commands)
