-- Demand 2 for a compressed frame, for every gap (docs/RULES.md, 'The demands' and 'Compressed frames'). Each statement is proved in proofs/Exact.antt under its name in small letters.
-- Assumes nothing.
use Rattle.std.specs.Prelude.{ℕ, ◌+◌, ◌*◌, ◌<◌, ◌≤◌, ◌≡◌, true, false, List, ◌↔◌, length, get_or, replicate}
use Rattle.run.specs.Verdict.{Verdict}
use Rattle.run.specs.Digits.{dtx}
use Rattle.run.specs.Parts.{part}
use Rattle.run.specs.Verdicts.{done, Narrow}
use Rattle.dpch.specs.declared.Format.{Format}
use Rattle.dpch.specs.Compressed.{format_in}
use Rattle.slot.specs.Rule.{data_size, slot_of}
use Rattle.compressed.specs.Rule.{is_missing, transmitted, number_of, turn_of, gap_stands, frame_of, data_in, tfci_in, commands_in}
use Rattle.compressed.specs.Outcome.{map_verdict, Map, read_verdict, Read}

-- the transmitted slots and the slots outside the gap are one to one, in order
pub record OneToOne (first missing : ℕ) : Type 0 where
  pub number_below : (i : ℕ) → i < transmitted missing → number_of first missing i < 15
  pub number_sent : (i : ℕ) → i < transmitted missing → is_missing first missing (number_of first missing i) ≡ false
  pub turn_back : (i : ℕ) → i < transmitted missing → turn_of first missing (number_of first missing i) ≡ i
  pub turn_below : (k : ℕ) → k < 15 → is_missing first missing k ≡ false → turn_of first missing k < transmitted missing
  pub number_back : (k : ℕ) → k < 15 → is_missing first missing k ≡ false → number_of first missing (turn_of first missing k) ≡ k
  pub in_order : (i j : ℕ) → i < j → number_of first missing i < number_of first missing j

abbrev pub GapOneToOne : Type 0
GapOneToOne = (first missing : ℕ) → first + missing ≤ 15 → OneToOne first missing

-- commands, data and TFCI give a frame with a gap: map takes them, and this is what it writes
pub record Gives (f : Format) (first missing : ℕ) (d tfci commands xs : List ℕ) : Type 0 where
  pub taken : map_verdict f first missing d tfci (15 * f.slot) commands ≡ done
  pub written : frame_of f first missing d tfci commands ≡ xs

-- the fields that give it
pub record Fields (f : Format) (first missing : ℕ) (xs : List ℕ) : Type 0 where
  pub d : List ℕ
  pub tfci : List ℕ
  pub commands : List ℕ
  pub gives : Gives f first missing d tfci commands xs

-- read accepts a frame with a gap exactly when some commands, TFCI and data give it, and hands back those, of which there is one set
pub record Exact (f : Format) (first missing : ℕ) (xs : List ℕ) : Type 0 where
  pub accepts : (read_verdict f first missing xs (transmitted missing * data_size f) (transmitted missing * f.tfci) (transmitted missing) ≡ done) ↔ Fields f first missing xs
  pub hands_back : (x : Fields f first missing xs)
      → (data_in f first missing xs ≡ x.d) × (tfci_in f first missing xs ≡ x.tfci) × (commands_in f first missing xs ≡ x.commands)
  pub one_set : (x y : Fields f first missing xs) → (x.d ≡ y.d) × (x.tfci ≡ y.tfci) × (x.commands ≡ y.commands)

abbrev pub ReadExact : Type 0
ReadExact =
    (format kind first missing : ℕ) (xs : List ℕ) → 0 < (format_in kind format).kind → gap_stands (format_in kind format) first missing ≡ true
    → length xs ≡ 15 * (format_in kind format).slot → Exact (format_in kind format) first missing xs

-- slot by slot, a mapped frame is the slots of its commands and parts, each with its own number, and silence in the gap
pub record Slots (f : Format) (first missing : ℕ) (d tfci commands : List ℕ) : Type 0 where
  pub sent : (i : ℕ) → i < transmitted missing
      → part (number_of first missing i) f.slot (frame_of f first missing d tfci commands)
      ≡ slot_of f (number_of first missing i) (get_or commands i 0) (part i (data_size f) d) (part i f.tfci tfci)
  pub silent : (k : ℕ) → k < 15 → is_missing first missing k ≡ true → part k f.slot (frame_of f first missing d tfci commands) ≡ replicate f.slot dtx

abbrev pub FrameSlots : Type 0
FrameSlots =
    (format kind first missing : ℕ) (d tfci commands : List ℕ) → first + missing ≤ 15
    → length d ≡ transmitted missing * data_size (format_in kind format) → length tfci ≡ transmitted missing * (format_in kind format).tfci
    → Slots (format_in kind format) first missing d tfci commands

-- each promise allows one outcome
abbrev pub MapOnce : Type 0
MapOnce =
    (format kind first missing : ℕ) (d tfci out commands : List ℕ) (a b : Verdict) (x y : List ℕ)
    → Map format kind first missing d tfci out commands a x → Map format kind first missing d tfci out commands b y → (a ≡ b) × (x ≡ y)

abbrev pub ReadOnce : Type 0
ReadOnce =
    (format kind first missing : ℕ) (xs d tfci commands : List ℕ) (a b : Verdict) (x y s t u v : List ℕ)
    → Read format kind first missing xs d tfci commands a x s u → Read format kind first missing xs d tfci commands b y t v → (a ≡ b) × (x ≡ y) × (s ≡ t) × (u ≡ v)

-- number and place fit the fields of a packed answer
pub record Packs : Type 0 where
  pub map_narrow : (format kind first missing : ℕ) (d tfci : List ℕ) (out_length : ℕ) (commands : List ℕ)
      → Narrow (map_verdict (format_in kind format) first missing d tfci out_length commands)
  pub read_narrow : (format kind first missing : ℕ) (xs : List ℕ) (data_length tfci_length commands_length : ℕ)
      → Narrow (read_verdict (format_in kind format) first missing xs data_length tfci_length commands_length)
