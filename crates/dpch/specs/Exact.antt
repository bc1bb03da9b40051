-- What the tables obey. Each statement is proved in proofs/Exact.antt under its name in small letters.
-- Assumes nothing.
use Rattle.std.specs.Prelude.{ℕ, ◌-◌, ◌*◌, ◌^◌, ◌<◌, ◌≤◌, ◌≡◌, length, get_or, take, replicate}
use Rattle.run.specs.First.{Every, at_most}
use Rattle.dpch.specs.declared.Format.{Format}
use Rattle.dpch.specs.Formats.{normal, kind_a, kind_b, no_row, format_of}
use Rattle.dpch.specs.Pilots.{pilot_of}
use Rattle.dpch.specs.Compressed.{row_a, row_b, format_in, pairs_twice, pilot_for, source_for}
use Rattle.dpch.specs.SecondPilots.{second_pilot, second_source}
use Rattle.dpch.specs.Uplink.{dpdch_size, dpcch_format}
use Rattle.dpch.specs.UplinkPilots.{dpcch_pilot, pinned_pilot}
use Rattle.dpch.specs.Layouts.{Fills, Channel, layout_of}

-- the fields fill the slot exactly, on both links and in compressed frames: of any number and kind, the layouts of no format included
abbrev pub FieldsFill : Type 0
FieldsFill = (channel : Channel) (format : ℕ) → Fills (layout_of channel format)

-- no slot is longer than 1280 digits, and each format has TPC bits
pub record Sizes (format : ℕ) : Type 0 where
  pub short : (format_of format).slot ≤ 1280
  pub has_tpc : format < 17 → 0 < (format_of format).tpc

abbrev pub FormatSizes : Type 0
FormatSizes = (format : ℕ) → Sizes format

-- a row's pilot is cut from what it begins, has as many digits as the row says, and every digit is a bit
pub record Pilot (f : Format) (slot : ℕ) : Type 0 where
  pub cut_from : pilot_for f.kind f.pilot slot ≡ take f.pilot (source_for f.kind f.pilot slot)
  pub enough : f.pilot ≤ length (source_for f.kind f.pilot slot)
  pub long : length (pilot_for f.kind f.pilot slot) ≡ f.pilot
  pub digits : slot < 15 → (k : ℕ) → get_or (pilot_for f.kind f.pilot slot) k 0 ≤ 1

abbrev pub FormatPilots : Type 0
FormatPilots = (kind format slot : ℕ) → Pilot (format_in kind format) slot

-- the normal formats are of the normal kind, with the pilot as table 12 prints it, and all fifteen slots are transmitted
pub record Normal (format : ℕ) : Type 0 where
  pub is_normal : (format_of format).kind ≡ normal
  pub pilot_is : (slot : ℕ) → pilot_for (format_of format).kind (format_of format).pilot slot ≡ pilot_of (format_of format).pilot slot
  pub all_slots : format < 17 → ((format_of format).fewest ≡ 15) × ((format_of format).most ≡ 15)

abbrev pub NormalFormats : Type 0
NormalFormats = (format : ℕ) → Normal format

-- ---- compressed frames

-- no slot of any kind is longer than 1280 digits, each compressed format has TPC bits, and 8 to 14 slots are transmitted
pub record RowSizes (f : Format) : Type 0 where
  pub short : f.slot ≤ 1280
  pub has_tpc : 0 < f.kind → 0 < f.tpc
  pub eight : 0 < f.kind → f.fewest ≡ 8
  pub fourteen : 0 < f.kind → f.most ≡ 14

abbrev pub KindSizes : Type 0
KindSizes = (kind format : ℕ) → RowSizes (format_in kind format)

-- what pins the printed rows. A: the normal row with its TFCI digits doubled, and as many given up by Data2
abbrev pub as_a : Format → Format
as_a f = row_a f.data1 (f.data2 - f.tfci) f.tpc (2 * f.tfci) f.pilot f.slot

-- B: the normal row with every field, and so the slot, doubled
abbrev pub as_b : Format → Format
as_b f = row_b (2 * f.data1) (2 * f.data2) (2 * f.tpc) (2 * f.tfci) (2 * f.pilot) (2 * f.slot)

-- the rows that are printed obey it: 0A and 2A to 16A, 0B to 15B. The table has no other
pub record Pinned : Type 0 where
  pub a_is : (format : ℕ) → format ≤ 16 → (format ≡ 1 → ⊥) → format_in kind_a format ≡ as_a (format_of format)
  pub gives_up : (format : ℕ) → (format_of format).tfci ≤ (format_of format).data2
  pub b_is : (format : ℕ) → format ≤ 15 → format_in kind_b format ≡ as_b (format_of format)
  pub no_1_a : format_in kind_a 1 ≡ no_row
  pub no_16_b : format_in kind_b 16 ≡ no_row
  pub no_number : (kind format : ℕ) → 16 < format → format_in kind format ≡ no_row
  pub no_kind : (kind format : ℕ) → kind_b < kind → format_in kind format ≡ no_row

-- the TPC and pilot fields of B are the normal fields with each pair of bits twice
pub record Doubled (format : ℕ) : Type 0 where
  pub tpc_twice : (tpc : ℕ) → replicate (format_in kind_b format).tpc tpc ≡ pairs_twice (replicate (format_of format).tpc tpc)
  pub pilot_twice : (slot : ℕ) → pilot_for kind_b (format_in kind_b format).pilot slot ≡ pairs_twice (pilot_of (format_of format).pilot slot)

abbrev pub FieldsDoubled : Type 0
FieldsDoubled = (format : ℕ) → format ≤ 15 → Doubled format

-- ---- antenna 2

-- a normal format's pilot on antenna 2 is cut from what it begins, has as many digits as the format says, and every digit is a bit
pub record SecondPilot (format slot : ℕ) : Type 0 where
  pub cut_from : second_pilot (format_of format).pilot slot ≡ take (format_of format).pilot (second_source (format_of format).pilot slot)
  pub enough : (format_of format).pilot ≤ length (second_source (format_of format).pilot slot)
  pub long : length (second_pilot (format_of format).pilot slot) ≡ (format_of format).pilot
  pub digits : Every (at_most 1 (second_pilot (format_of format).pilot slot)) (length (second_pilot (format_of format).pilot slot))

abbrev pub FormatSecondPilots : Type 0
FormatSecondPilots = (format slot : ℕ) → SecondPilot format slot

-- table 14: the 8-bit pattern begins the 16-bit one, and what is printed for two bits begins the 4-bit one
pub record Begins (slot : ℕ) : Type 0 where
  pub eight : second_pilot 8 slot ≡ take 8 (second_pilot 16 slot)
  pub two : second_pilot 2 slot ≡ take 2 (second_pilot 4 slot)

abbrev pub PatternsBegin : Type 0
PatternsBegin = (slot : ℕ) → Begins slot

-- ---- the uplink

-- a DPDCH slot has 10·2^format digits
abbrev pub DpdchSizes : Type 0
DpdchSizes = (format : ℕ) → format ≤ 6 → dpdch_size format ≡ 10 * 2 ^ format

-- no DPDCH slot is longer than 640 digits
abbrev pub DpdchShort : Type 0
DpdchShort = (format : ℕ) → dpdch_size format ≤ 640

-- each DPCCH format has ten digits, two of them TPC, and no field or slot is longer than that
pub record DpcchSizes (format : ℕ) : Type 0 where
  pub short : (dpcch_format format).slot ≤ 10
  pub ten : format ≤ 3 → (dpcch_format format).slot ≡ 10
  pub two_tpc : format ≤ 3 → (dpcch_format format).tpc ≡ 2

abbrev pub DpcchFormats : Type 0
DpcchFormats = (format : ℕ) → DpcchSizes format

-- a DPCCH format's pilot has as many digits as the format says, and every digit is a bit
pub record DpcchPilot (format slot : ℕ) : Type 0 where
  pub long : length (dpcch_pilot (dpcch_format format).pilot slot) ≡ (dpcch_format format).pilot
  pub digits : Every (at_most 1 (dpcch_pilot (dpcch_format format).pilot slot)) (length (dpcch_pilot (dpcch_format format).pilot slot))

abbrev pub DpcchPilots : Type 0
DpcchPilots = (format slot : ℕ) → DpcchPilot format slot

-- the printed patterns, of every length and in every slot, are frame synchronisation words in the shadowed columns and 1 elsewhere
abbrev pub PilotsPinned : Type 0
PilotsPinned = (bits slot : ℕ) → 3 ≤ bits → bits ≤ 8 → slot < 15 → dpcch_pilot bits slot ≡ pinned_pilot bits slot
