-- Demand 2 for a DPCH slot (docs/RULES.md, 'The demands' and 'DPCH slot'). Each statement is proved in proofs/Exact.antt under its name in small letters.
-- Assumes nothing.
use Rattle.std.specs.Prelude.{ℕ, ◌+◌, ◌<◌, ◌≤◌, ◌≡◌, List, ◌↔◌, length, get_or}
use Rattle.run.specs.Verdict.{Verdict}
use Rattle.run.specs.Fields.{cut, joined}
use Rattle.run.specs.Verdicts.{done, Narrow}
use Rattle.dpch.specs.Command.{Command}
use Rattle.dpch.specs.declared.Format.{Format}
use Rattle.dpch.specs.Formats.{format_of, widths}
use Rattle.dpch.specs.Pilots.{pilot_of}
use Rattle.slot.specs.Rule.{data_size, fields_of, slot_of, tfci_in, data_in, command_in}
use Rattle.slot.specs.Outcome.{map_verdict, Map, read_verdict, Read, Put, Take, PutRow, TakeRow}
use Rattle.slot.specs.declared.Sizes.{Sizes}
use Rattle.slot.specs.Ready.{SizesOf}

-- a command, data and TFCI give a slot: map takes them, and this is what it writes
pub record Gives (format slot tpc : ℕ) (d tfci xs : List ℕ) : Type 0 where
  pub taken : map_verdict format slot tpc d tfci (format_of format).slot ≡ done
  pub written : slot_of (format_of format) slot tpc d tfci ≡ xs

-- the fields that give a slot
pub record Fields (format slot : ℕ) (xs : List ℕ) : Type 0 where
  pub tpc : ℕ
  pub d : List ℕ
  pub tfci : List ℕ
  pub gives : Gives format slot tpc d tfci xs

-- read accepts a slot exactly when some command, TFCI and data give it, and hands back those, of which there is one set
pub record Exact (format slot : ℕ) (xs : List ℕ) : Type 0 where
  pub accepts : (read_verdict format slot xs (data_size (format_of format)) (format_of format).tfci ≡ done) ↔ Fields format slot xs
  pub hands_back : (x : Fields format slot xs) → (command_in (format_of format) xs ≡ x.tpc) × (data_in (format_of format) xs ≡ x.d) × (tfci_in (format_of format) xs ≡ x.tfci)
  pub one_set : (x y : Fields format slot xs) → (x.tpc ≡ y.tpc) × (x.d ≡ y.d) × (x.tfci ≡ y.tfci)

abbrev pub ReadExact : Type 0
ReadExact = (format slot : ℕ) (xs : List ℕ) → format ≤ 16 → slot ≤ 14 → length xs ≡ (format_of format).slot → Exact format slot xs

-- cutting a slot into its fields and joining them undo each other
pub record Cuts (format : ℕ) : Type 0 where
  pub joins : (xs : List ℕ) → length xs ≡ (format_of format).slot → joined (cut (widths (format_of format)) xs) ≡ xs
  pub cuts : (slot tpc : ℕ) (d tfci : List ℕ) → length d ≡ data_size (format_of format) → length tfci ≡ (format_of format).tfci
      → cut (widths (format_of format)) (slot_of (format_of format) slot tpc d tfci) ≡ fields_of (format_of format) slot tpc d tfci

abbrev pub SlotCuts : Type 0
SlotCuts = (format : ℕ) → Cuts format

-- each digit of a mapped slot, field by field and index by index
pub record Placed (format slot tpc : ℕ) (d tfci : List ℕ) : Type 0 where
  pub long : length (slot_of (format_of format) slot tpc d tfci) ≡ (format_of format).slot
  pub data1_at : (i : ℕ) → i < (format_of format).data1 → get_or (slot_of (format_of format) slot tpc d tfci) i 0 ≡ get_or d i 0
  pub tpc_at : (i : ℕ) → i < (format_of format).tpc → get_or (slot_of (format_of format) slot tpc d tfci) ((format_of format).data1 + i) 0 ≡ tpc
  pub tfci_at : (i : ℕ) → i < (format_of format).tfci
      → get_or (slot_of (format_of format) slot tpc d tfci) ((format_of format).data1 + (format_of format).tpc + i) 0 ≡ get_or tfci i 0
  pub data2_at : (i : ℕ) → i < (format_of format).data2
      → get_or (slot_of (format_of format) slot tpc d tfci) ((format_of format).data1 + (format_of format).tpc + (format_of format).tfci + i) 0 ≡ get_or d ((format_of format).data1 + i) 0
  pub pilot_at : (i : ℕ) → i < (format_of format).pilot
      → get_or (slot_of (format_of format) slot tpc d tfci) ((format_of format).data1 + (format_of format).tpc + (format_of format).tfci + (format_of format).data2 + i) 0
      ≡ get_or (pilot_of (format_of format).pilot slot) i 0

abbrev pub SlotPlaced : Type 0
SlotPlaced =
    (format slot tpc : ℕ) (d tfci : List ℕ) → length d ≡ data_size (format_of format) → length tfci ≡ (format_of format).tfci → Placed format slot tpc d tfci

-- each promise allows one outcome
abbrev pub MapOnce : Type 0
MapOnce =
    (format slot tpc : ℕ) (d tfci out : List ℕ) (a b : Verdict) (x y : List ℕ) → Map format slot tpc d tfci out a x → Map format slot tpc d tfci out b y → (a ≡ b) × (x ≡ y)

abbrev pub ReadOnce : Type 0
ReadOnce =
    (format slot : ℕ) (xs d tfci : List ℕ) (a b : Command) (x y s t : List ℕ) → Read format slot xs d tfci a x s → Read format slot xs d tfci b y t
    → (a ≡ b) × (x ≡ y) × (s ≡ t)

-- .. and so does that of each part
pub record PartsOnce : Type 0 where
  pub put : (format slot tpc : ℕ) (d tfci out : List ℕ) (a b : Verdict) (x y : List ℕ) → Put format slot tpc d tfci out a x → Put format slot tpc d tfci out b y → (a ≡ b) × (x ≡ y)
  pub take : (format slot : ℕ) (xs d tfci : List ℕ) (a b : Command) (x y s t : List ℕ) → Take format slot xs d tfci a x s → Take format slot xs d tfci b y t
      → (a ≡ b) × (x ≡ y) × (s ≡ t)
  pub put_row : (f : Format) (slot tpc : ℕ) (d tfci out x y : List ℕ) → PutRow f slot tpc d tfci out x → PutRow f slot tpc d tfci out y → x ≡ y
  pub take_row : (f : Format) (xs d tfci : List ℕ) (a b : ℕ) (x y s t : List ℕ) → TakeRow f xs d tfci a x s → TakeRow f xs d tfci b y t → (a ≡ b) × (x ≡ y) × (s ≡ t)
  pub sizes : (f : Format) (a b : Sizes) → SizesOf f a → SizesOf f b → a ≡ b

-- number, place and command fit the fields of a packed answer
pub record Packs : Type 0 where
  pub map_narrow : (format slot tpc : ℕ) (d tfci : List ℕ) (out_length : ℕ) → Narrow (map_verdict format slot tpc d tfci out_length)
  pub read_narrow : (format slot : ℕ) (xs : List ℕ) (data_length tfci_length : ℕ) → Narrow (read_verdict format slot xs data_length tfci_length)
  pub command_small : (format slot : ℕ) (xs d tfci : List ℕ) (answer : Command) (x t : List ℕ) → Read format slot xs d tfci answer x t → answer.tpc < 65536
