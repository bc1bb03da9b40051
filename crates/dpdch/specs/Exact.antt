-- Demand 2 for the uplink DPDCH (docs/RULES.md, 'The demands' and 'Uplink DPDCH'). Each statement is proved in proofs/Exact.antt under its name in small letters.
-- Assumes nothing.
use Rattle.std.specs.Prelude.{ℕ, ◌*◌, ◌<◌, ◌≤◌, ◌≡◌, List, ◌↔◌, length}
use Rattle.run.specs.Verdict.{Verdict}
use Rattle.run.specs.Parts.{part}
use Rattle.run.specs.Verdicts.{done, Narrow}
use Rattle.dpch.specs.Uplink.{dpdch_size}
use Rattle.dpdch.specs.Rule.{slot_of, data_in, frame_of, frame_data_in}
use Rattle.dpdch.specs.Outcome.{map_verdict, Map, read_verdict, Read, frame_map_verdict, FrameMap, frame_read_verdict, FrameRead}

-- of a slot and of a frame alike: what map takes (`taken` of data and output), what it writes, what read takes and hands back
module _ (taken : List ℕ → ℕ → Verdict) (written : List ℕ → List ℕ) (accepted : List ℕ → ℕ → Verdict) (handed : List ℕ → List ℕ) (size : ℕ) where
  -- data gives a run: map takes it, and this is what it writes
  pub record Gives (d xs : List ℕ) : Type 0 where
    pub is_taken : taken d size ≡ done
    pub is_written : written d ≡ xs

  -- read accepts a run exactly when some data gives it, and hands back that, of which there is one
  pub record Exact (xs : List ℕ) : Type 0 where
    pub accepts : (accepted xs size ≡ done) ↔ ((d : List ℕ) × Gives d xs)
    pub hands_back : (d : List ℕ) → Gives d xs → handed xs ≡ d
    pub one_set : (d others : List ℕ) → Gives d xs → Gives others xs → d ≡ others

abbrev pub ReadExact : Type 0
ReadExact =
    (format : ℕ) (xs : List ℕ) → format ≤ 6 → length xs ≡ dpdch_size format
    → Exact (map_verdict format) slot_of (read_verdict format) (data_in format) (dpdch_size format) xs

abbrev pub FrameReadExact : Type 0
FrameReadExact =
    (format : ℕ) (xs : List ℕ) → format ≤ 6 → length xs ≡ 15 * dpdch_size format
    → Exact (frame_map_verdict format) (frame_of format) (frame_read_verdict format) (frame_data_in format) (15 * dpdch_size format) xs

-- slot k of a mapped frame is the mapped slot of the k-th part of the data
abbrev pub FrameSlots : Type 0
FrameSlots =
    (format : ℕ) (d : List ℕ) → length d ≡ 15 * dpdch_size format
    → (k : ℕ) → k < 15 → part k (dpdch_size format) (frame_of format d) ≡ slot_of (part k (dpdch_size format) d)

-- each promise allows one outcome
abbrev pub MapOnce : Type 0
MapOnce = (format : ℕ) (d out : List ℕ) (a b : Verdict) (x y : List ℕ) → Map format d out a x → Map format d out b y → (a ≡ b) × (x ≡ y)

abbrev pub ReadOnce : Type 0
ReadOnce = (format : ℕ) (xs d : List ℕ) (a b : Verdict) (x y : List ℕ) → Read format xs d a x → Read format xs d b y → (a ≡ b) × (x ≡ y)

abbrev pub FrameMapOnce : Type 0
FrameMapOnce = (format : ℕ) (d out : List ℕ) (a b : Verdict) (x y : List ℕ) → FrameMap format d out a x → FrameMap format d out b y → (a ≡ b) × (x ≡ y)

abbrev pub FrameReadOnce : Type 0
FrameReadOnce = (format : ℕ) (xs d : List ℕ) (a b : Verdict) (x y : List ℕ) → FrameRead format xs d a x → FrameRead format xs d b y → (a ≡ b) × (x ≡ y)

-- number and place fit the fields of a packed answer
pub record Packs : Type 0 where
  pub map_narrow : (format : ℕ) (d : List ℕ) (out_length : ℕ) → Narrow (map_verdict format d out_length)
  pub read_narrow : (format : ℕ) (xs : List ℕ) (data_length : ℕ) → Narrow (read_verdict format xs data_length)
  pub frame_map_narrow : (format : ℕ) (d : List ℕ) (out_length : ℕ) → Narrow (frame_map_verdict format d out_length)
  pub frame_read_narrow : (format : ℕ) (xs : List ℕ) (data_length : ℕ) → Narrow (frame_read_verdict format xs data_length)
