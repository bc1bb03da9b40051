-- Demand 2 for a DPCH frame (docs/RULES.md, 'The demands' and 'DPCH slot'). Each statement is proved in proofs/Exact.antt under its name in small letters.
-- Assumes nothing.
use Rattle.std.specs.Prelude.{ℕ, ◌*◌, ◌<◌, ◌≤◌, ◌≡◌, List, ◌↔◌, length}
use Rattle.run.specs.Verdict.{Verdict}
use Rattle.run.specs.Parts.{part}
use Rattle.run.specs.Verdicts.{done, Narrow}
use Rattle.dpch.specs.Formats.{format_of}
use Rattle.slot.specs.Rule.{data_size}
use Rattle.frame.specs.Rule.{slot_at, frame_of, data_in, tfci_in, commands_in}
use Rattle.frame.specs.Outcome.{map_verdict, Map, read_verdict, Read}

-- commands, data and TFCI give a frame: map takes them, and this is what it writes
pub record Gives (format : ℕ) (d tfci commands xs : List ℕ) : Type 0 where
  pub taken : map_verdict format d tfci (15 * (format_of format).slot) commands ≡ done
  pub written : frame_of (format_of format) d tfci commands ≡ xs

-- the fields that give a frame
pub record Fields (format : ℕ) (xs : List ℕ) : Type 0 where
  pub d : List ℕ
  pub tfci : List ℕ
  pub commands : List ℕ
  pub gives : Gives format d tfci commands xs

-- read accepts a frame exactly when some commands, TFCI and data give it, and hands back those, of which there is one set
pub record Exact (format : ℕ) (xs : List ℕ) : Type 0 where
  pub accepts : (read_verdict format xs (15 * data_size (format_of format)) (15 * (format_of format).tfci) 15 ≡ done) ↔ Fields format xs
  pub hands_back : (x : Fields format xs)
      → (data_in (format_of format) xs ≡ x.d) × (tfci_in (format_of format) xs ≡ x.tfci) × (commands_in (format_of format) xs ≡ x.commands)
  pub one_set : (x y : Fields format xs) → (x.d ≡ y.d) × (x.tfci ≡ y.tfci) × (x.commands ≡ y.commands)

abbrev pub ReadExact : Type 0
ReadExact = (format : ℕ) (xs : List ℕ) → format ≤ 16 → length xs ≡ 15 * (format_of format).slot → Exact format xs

-- slot k of a mapped frame is the mapped slot k of the k-th command and parts: slots 1 to 14 are told apart from slot 0
abbrev pub FrameSlots : Type 0
FrameSlots =
    (format : ℕ) (d tfci commands : List ℕ) → length d ≡ 15 * data_size (format_of format) → length tfci ≡ 15 * (format_of format).tfci
    → (k : ℕ) → k < 15 → part k (format_of format).slot (frame_of (format_of format) d tfci commands) ≡ slot_at (format_of format) d tfci commands k

-- each promise allows one outcome
abbrev pub MapOnce : Type 0
MapOnce =
    (format : ℕ) (d tfci out commands : List ℕ) (a b : Verdict) (x y : List ℕ) → Map format d tfci out commands a x → Map format d tfci out commands b y
    → (a ≡ b) × (x ≡ y)

abbrev pub ReadOnce : Type 0
ReadOnce =
    (format : ℕ) (xs d tfci commands : List ℕ) (a b : Verdict) (x y s t u v : List ℕ) → Read format xs d tfci commands a x s u → Read format xs d tfci commands b y t v
    → (a ≡ b) × (x ≡ y) × (s ≡ t) × (u ≡ v)

-- number and place fit the fields of a packed answer
pub record Packs : Type 0 where
  pub map_narrow : (format : ℕ) (d tfci : List ℕ) (out_length : ℕ) (commands : List ℕ) → Narrow (map_verdict format d tfci out_length commands)
  pub read_narrow : (format : ℕ) (xs : List ℕ) (data_length tfci_length commands_length : ℕ) → Narrow (read_verdict format xs data_length tfci_length commands_length)
