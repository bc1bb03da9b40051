-- Demand 2 for the uplink DPCCH (docs/RULES.md, 'The demands' and 'Uplink DPCCH'). Each statement is proved in proofs/Exact.antt under its name in small letters.
-- Assumes nothing.
use Rattle.std.specs.Prelude.{ℕ, ◌+◌, ◌*◌, ◌<◌, ◌≤◌, ◌≡◌, List, ◌↔◌, length, get_or}
use Rattle.run.specs.Verdict.{Verdict}
use Rattle.run.specs.Fields.{cut, joined}
use Rattle.run.specs.Parts.{part}
use Rattle.run.specs.Refusals.{tfci_refused}
use Rattle.run.specs.Verdicts.{done, Narrow}
use Rattle.dpch.specs.Command.{Command}
use Rattle.dpch.specs.Uplink.{dpcch_format, dpcch_widths}
use Rattle.dpch.specs.UplinkPilots.{dpcch_pilot}
use Rattle.dpdch.specs.Outcome as dpdch
use Rattle.dpcch.specs.Rule.{fields_of, slot_of, tfci_in, fbi_in, command_in, slot_at, frame_of, frame_tfci_in, frame_fbi_in, commands_in}
use Rattle.dpcch.specs.Outcome.{map_verdict, Map, read_verdict, Read, Put, Take, frame_map_verdict, FrameMap, frame_read_verdict, FrameRead}

-- of a slot, with a command, and of a frame, with fifteen, alike: what map takes and writes ..
module _ {C : Type 0} (taken : C → List ℕ → List ℕ → Verdict) (written : C → List ℕ → List ℕ → List ℕ) where
  -- a command, TFCI and FBI give a run: map takes them, and this is what it writes
  pub record Gives (command : C) (tfci fbi xs : List ℕ) : Type 0 where
    pub is_taken : taken command tfci fbi ≡ done
    pub is_written : written command tfci fbi ≡ xs

  -- the fields that give a run
  pub record Fields (xs : List ℕ) : Type 0 where
    pub command : C
    pub tfci : List ℕ
    pub fbi : List ℕ
    pub gives : Gives command tfci fbi xs

  -- .. and what read takes and hands back: it accepts a run exactly when some fields give it, and hands back those, of which there is one set
  pub record Exact (accepted : List ℕ → Verdict) (command_of : List ℕ → C) (tfci_of fbi_of : List ℕ → List ℕ) (xs : List ℕ) : Type 0 where
    pub accepts : (accepted xs ≡ done) ↔ Fields xs
    pub hands_back : (x : Fields xs) → (command_of xs ≡ x.command) × (tfci_of xs ≡ x.tfci) × (fbi_of xs ≡ x.fbi)
    pub one_set : (x y : Fields xs) → (x.command ≡ y.command) × (x.tfci ≡ y.tfci) × (x.fbi ≡ y.fbi)

abbrev pub ReadExact : Type 0
ReadExact =
    (format slot : ℕ) (xs : List ℕ) → format ≤ 3 → slot ≤ 14 → length xs ≡ (dpcch_format format).slot
    → Exact (λ (tpc : ℕ) (tfci fbi : List ℕ). map_verdict format slot tpc tfci fbi (dpcch_format format).slot) (slot_of (dpcch_format format) slot)
    (λ (s : List ℕ). read_verdict format slot s (dpcch_format format).tfci (dpcch_format format).fbi)
    (command_in (dpcch_format format)) (tfci_in (dpcch_format format)) (fbi_in (dpcch_format format)) xs

abbrev pub FrameReadExact : Type 0
FrameReadExact =
    (format : ℕ) (xs : List ℕ) → format ≤ 3 → length xs ≡ 15 * (dpcch_format format).slot
    → Exact (λ (commands tfci fbi : List ℕ). frame_map_verdict format tfci fbi (15 * (dpcch_format format).slot) commands)
    (λ (commands tfci fbi : List ℕ). frame_of (dpcch_format format) tfci fbi commands)
    (λ (s : List ℕ). frame_read_verdict format s (15 * (dpcch_format format).tfci) (15 * (dpcch_format format).fbi) 15)
    (commands_in (dpcch_format format)) (frame_tfci_in (dpcch_format format)) (frame_fbi_in (dpcch_format format)) xs

-- cutting a slot into its fields and joining them undo each other
pub record Cuts (format : ℕ) : Type 0 where
  pub joins : (xs : List ℕ) → length xs ≡ (dpcch_format format).slot → joined (cut (dpcch_widths (dpcch_format format)) xs) ≡ xs
  pub cuts : (slot tpc : ℕ) (tfci fbi : List ℕ) → length tfci ≡ (dpcch_format format).tfci → length fbi ≡ (dpcch_format format).fbi
      → cut (dpcch_widths (dpcch_format format)) (slot_of (dpcch_format format) slot tpc tfci fbi) ≡ fields_of (dpcch_format format) slot tpc tfci fbi

abbrev pub SlotCuts : Type 0
SlotCuts = (format : ℕ) → Cuts format

-- each digit of a mapped slot, field by field and index by index
pub record Placed (format slot tpc : ℕ) (tfci fbi : List ℕ) : Type 0 where
  pub long : length (slot_of (dpcch_format format) slot tpc tfci fbi) ≡ (dpcch_format format).slot
  pub pilot_at : (i : ℕ) → i < (dpcch_format format).pilot
      → get_or (slot_of (dpcch_format format) slot tpc tfci fbi) i 0 ≡ get_or (dpcch_pilot (dpcch_format format).pilot slot) i 0
  pub tfci_at : (i : ℕ) → i < (dpcch_format format).tfci
      → get_or (slot_of (dpcch_format format) slot tpc tfci fbi) ((dpcch_format format).pilot + i) 0 ≡ get_or tfci i 0
  pub fbi_at : (i : ℕ) → i < (dpcch_format format).fbi
      → get_or (slot_of (dpcch_format format) slot tpc tfci fbi) ((dpcch_format format).pilot + (dpcch_format format).tfci + i) 0 ≡ get_or fbi i 0
  pub tpc_at : (i : ℕ) → i < (dpcch_format format).tpc
      → get_or (slot_of (dpcch_format format) slot tpc tfci fbi) ((dpcch_format format).pilot + (dpcch_format format).tfci + (dpcch_format format).fbi + i) 0 ≡ tpc

abbrev pub SlotPlaced : Type 0
SlotPlaced =
    (format slot tpc : ℕ) (tfci fbi : List ℕ) → length tfci ≡ (dpcch_format format).tfci → length fbi ≡ (dpcch_format format).fbi → Placed format slot tpc tfci fbi

-- slot k of a mapped frame is the mapped slot k of the k-th command and parts: slots 1 to 14 are told apart from slot 0
abbrev pub FrameSlots : Type 0
FrameSlots =
    (format : ℕ) (tfci fbi commands : List ℕ) → length tfci ≡ 15 * (dpcch_format format).tfci → length fbi ≡ 15 * (dpcch_format format).fbi
    → (k : ℕ) → k < 15 → part k (dpcch_format format).slot (frame_of (dpcch_format format) tfci fbi commands) ≡ slot_at (dpcch_format format) tfci fbi commands k

-- 6 does not occur on the uplink: all eight verdicts, of the DPDCH and of the DPCCH, for all inputs
abbrev pub NotSix : Verdict → Type 0
NotSix v = v.number ≡ tfci_refused → ⊥

pub record UplinkNotSix : Type 0 where
  pub dpdch_map : (format : ℕ) (d : List ℕ) (out_length : ℕ) → NotSix (dpdch.map_verdict format d out_length)
  pub dpdch_read : (format : ℕ) (xs : List ℕ) (data_length : ℕ) → NotSix (dpdch.read_verdict format xs data_length)
  pub dpdch_frame_map : (format : ℕ) (d : List ℕ) (out_length : ℕ) → NotSix (dpdch.frame_map_verdict format d out_length)
  pub dpdch_frame_read : (format : ℕ) (xs : List ℕ) (data_length : ℕ) → NotSix (dpdch.frame_read_verdict format xs data_length)
  pub dpcch_map : (format slot tpc : ℕ) (tfci fbi : List ℕ) (out_length : ℕ) → NotSix (map_verdict format slot tpc tfci fbi out_length)
  pub dpcch_read : (format slot : ℕ) (xs : List ℕ) (tfci_length fbi_length : ℕ) → NotSix (read_verdict format slot xs tfci_length fbi_length)
  pub dpcch_frame_map : (format : ℕ) (tfci fbi : List ℕ) (out_length : ℕ) (commands : List ℕ) → NotSix (frame_map_verdict format tfci fbi out_length commands)
  pub dpcch_frame_read : (format : ℕ) (xs : List ℕ) (tfci_length fbi_length commands_length : ℕ) → NotSix (frame_read_verdict format xs tfci_length fbi_length commands_length)

-- each promise allows one outcome
abbrev pub MapOnce : Type 0
MapOnce =
    (format slot tpc : ℕ) (tfci fbi out : List ℕ) (a b : Verdict) (x y : List ℕ) → Map format slot tpc tfci fbi out a x → Map format slot tpc tfci fbi out b y → (a ≡ b) × (x ≡ y)

abbrev pub ReadOnce : Type 0
ReadOnce =
    (format slot : ℕ) (xs tfci fbi : List ℕ) (a b : Command) (x y s t : List ℕ) → Read format slot xs tfci fbi a x s → Read format slot xs tfci fbi b y t
    → (a ≡ b) × (x ≡ y) × (s ≡ t)

abbrev pub FrameMapOnce : Type 0
FrameMapOnce =
    (format : ℕ) (tfci fbi out commands : List ℕ) (a b : Verdict) (x y : List ℕ) → FrameMap format tfci fbi out commands a x → FrameMap format tfci fbi out commands b y
    → (a ≡ b) × (x ≡ y)

abbrev pub FrameReadOnce : Type 0
FrameReadOnce =
    (format : ℕ) (xs tfci fbi commands : List ℕ) (a b : Verdict) (x y s t u v : List ℕ) → FrameRead format xs tfci fbi commands a x s u → FrameRead format xs tfci fbi commands b y t v
    → (a ≡ b) × (x ≡ y) × (s ≡ t) × (u ≡ v)

-- .. and so does that of each part
pub record PartsOnce : Type 0 where
  pub put : (format slot tpc : ℕ) (tfci fbi out x y : List ℕ) → Put format slot tpc tfci fbi out x → Put format slot tpc tfci fbi out y → x ≡ y
  pub take : (format : ℕ) (xs tfci fbi : List ℕ) (a b : ℕ) (x y s t : List ℕ) → Take format xs tfci fbi a x s → Take format xs tfci fbi b y t → (a ≡ b) × (x ≡ y) × (s ≡ t)

-- number, place and command fit the fields of a packed answer
pub record Packs : Type 0 where
  pub map_narrow : (format slot tpc : ℕ) (tfci fbi : List ℕ) (out_length : ℕ) → Narrow (map_verdict format slot tpc tfci fbi out_length)
  pub read_narrow : (format slot : ℕ) (xs : List ℕ) (tfci_length fbi_length : ℕ) → Narrow (read_verdict format slot xs tfci_length fbi_length)
  pub command_small : (format slot : ℕ) (xs tfci fbi : List ℕ) (answer : Command) (x t : List ℕ) → Read format slot xs tfci fbi answer x t → answer.tpc < 65536
  pub frame_map_narrow : (format : ℕ) (tfci fbi : List ℕ) (out_length : ℕ) (commands : List ℕ) → Narrow (frame_map_verdict format tfci fbi out_length commands)
  pub frame_read_narrow : (format : ℕ) (xs : List ℕ) (tfci_length fbi_length commands_length : ℕ) → Narrow (frame_read_verdict format xs tfci_length fbi_length commands_length)
