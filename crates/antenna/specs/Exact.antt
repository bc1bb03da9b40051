-- Demand 2 for a DPCH slot on two antennas (docs/RULES.md, 'The demands' and 'DPCH on the second antenna'), and what else TS 25.211, 5.3.2.1, says of antenna 2. Each statement is proved
-- in proofs/Exact.antt under its name in small letters.
-- Assumes nothing.
use Rattle.std.specs.Prelude.{ℕ, ◌+◌, ◌-◌, ◌*◌, ◌/◌, ◌%◌, ◌<◌, ◌≤◌, ◌≡◌, List, [], ◌∷◌, ◌++◌, map, ◌↔◌, length, get_or, take, drop}
use Rattle.run.specs.Verdict.{Verdict}
use Rattle.run.specs.Pairs.{PairGiven}
use Rattle.run.specs.Verdicts.{done, Narrow}
use Rattle.dpch.specs.Command.{Command}
use Rattle.dpch.specs.Formats.{format_of}
use Rattle.dpch.specs.Pilots.{pilot_of}
use Rattle.dpch.specs.SecondPilots.{second_pilot}
use Rattle.slot.specs.Rule.{data_size, slot_of, data_in, tfci_in, command_in}
use Rattle.slot.specs.Outcome as base
use Rattle.sttd.specs.Rule.{sttd, bar_digit, digit_value}
use Rattle.sttd.specs.Antenna2.{Cancel}
use Rattle.antenna.specs.Rule.{pilot_start, second_of, sent_of, coded_from, coded_to, coded}
use Rattle.antenna.specs.Outcome.{map_verdict, Map, read_verdict, Read}

-- ---- antenna 1 is the base's

-- for antenna number 0 the new mapper is the base's: answer and runs
pub record FirstIsBase (format slot tpc : ℕ) (d tfci out : List ℕ) : Type 0 where
  pub same_verdict : map_verdict format slot 0 tpc d tfci (length out) ≡ base.map_verdict format slot tpc d tfci (length out)
  pub same_slot : sent_of format slot 0 tpc d tfci ≡ slot_of (format_of format) slot tpc d tfci
  pub same_promise : (answer : Verdict) (after : List ℕ) → Map format slot 0 tpc d tfci out answer after ↔ base.Map format slot tpc d tfci out answer after

abbrev pub AntennaOne : Type 0
AntennaOne = (format slot tpc : ℕ) (d tfci out : List ℕ) → FirstIsBase format slot tpc d tfci out

-- ---- reading

-- the fields of a slot
pub record Fields : Type 0 where
  pub tpc : ℕ
  pub d : List ℕ
  pub tfci : List ℕ

-- map takes them, for either antenna
abbrev pub Taken : ℕ → ℕ → Fields → Type 0
Taken format slot x = (antenna : ℕ) → antenna ≤ 1 → map_verdict format slot antenna x.tpc x.d x.tfci (format_of format).slot ≡ done

-- what an antenna then sends
abbrev pub sent : ℕ → ℕ → ℕ → Fields → List ℕ
sent format slot antenna x = sent_of format slot antenna x.tpc x.d x.tfci

-- what is handed back
abbrev pub fields_in : ℕ → List ℕ → Fields
fields_in format first = record { tpc = command_in (format_of format) first; d = data_in (format_of format) first; tfci = tfci_in (format_of format) first }

-- some fields give a pair of streams
abbrev pub Pair : ℕ → ℕ → List ℕ → List ℕ → Type 0
Pair format slot first second = PairGiven (Taken format slot) (sent format slot 0) (sent format slot 1) first second

-- read accepts a pair exactly when some fields give it, and hands back those, of which there is one set
pub record Exact (format slot : ℕ) (first second : List ℕ) : Type 0 where
  pub accepts : (read_verdict format slot first second (data_size (format_of format)) (format_of format).tfci ≡ done) ↔ Pair format slot first second
  pub hands_back : (g : Pair format slot first second) → fields_in format first ≡ g.fields
  pub one_set : (g h : Pair format slot first second) → g.fields ≡ h.fields

abbrev pub ReadExact : Type 0
ReadExact =
    (format slot : ℕ) (first second : List ℕ) → format ≤ 16 → slot ≤ 14 → length first ≡ (format_of format).slot → length second ≡ (format_of format).slot
    → Exact format slot first second

-- ---- what is encoded

-- whole blocks of four in every format: digits 2 to 5 in formats 0 and 1, the whole slot in 2 and 3, all before the pilot in 4 to 16
pub record Encoded (format : ℕ) : Type 0 where
  pub ordered : coded_from format ≤ coded_to format
  pub in_slot : coded_to format ≤ (format_of format).slot
  pub whole : (coded_to format - coded_from format) % 4 ≡ 0
  pub factor_512 : format < 2 → (coded_from format ≡ 2) × (coded_to format ≡ 6)
  pub two_bits : 2 ≤ format → format < 4 → (coded_from format ≡ 0) × (coded_to format ≡ (format_of format).slot)
  pub others : 4 ≤ format → (coded_from format ≡ 0) × (coded_to format ≡ pilot_start format)

abbrev pub WholeBlocks : Type 0
WholeBlocks = (format : ℕ) → format ≤ 16 → Encoded format

-- b0 b1 b2 b3 on antenna 1 make bar b2, b3, b0, bar b1 on antenna 2, for the block at place i
pub record Block (first second : List ℕ) (i : ℕ) : Type 0 where
  pub at_0 : get_or second i 0 ≡ bar_digit (get_or first (i + 2) 0)
  pub at_1 : get_or second (i + 1) 0 ≡ get_or first (i + 3) 0
  pub at_2 : get_or second (i + 2) 0 ≡ get_or first i 0
  pub at_3 : get_or second (i + 3) 0 ≡ bar_digit (get_or first (i + 1) 0)

-- each digit of antenna 2's slot: before the encoded digits it is antenna 1's, those are encoded block by block, and behind them stands the pilot of table 14
pub record Placed (format slot : ℕ) (first second : List ℕ) : Type 0 where
  pub long : length second ≡ (format_of format).slot
  pub same : (i : ℕ) → i < coded_from format → get_or second i 0 ≡ get_or first i 0
  pub blocks : (k : ℕ) → coded_from format + 4 * k + 4 ≤ coded_to format → Block first second (coded_from format + 4 * k)
  pub pilot : (i : ℕ) → coded_to format + i < (format_of format).slot → get_or second (coded_to format + i) 0 ≡ get_or (second_pilot (format_of format).pilot slot) i 0

abbrev pub SecondPlaced : Type 0
SecondPlaced = (format slot : ℕ) (first : List ℕ) → length first ≡ (format_of format).slot → Placed format slot first (second_of format slot first)

-- in formats 2 and 3 the last block puts the pilot, with table 14's bits, before the last two data digits
pub record LastBlock (slot : ℕ) (first second : List ℕ) : Type 0 where
  pub pilot_0 : get_or second 16 0 ≡ get_or (second_pilot 2 slot) 0 0
  pub pilot_1 : get_or second 17 0 ≡ get_or (second_pilot 2 slot) 1 0
  pub data_0 : get_or second 18 0 ≡ get_or first 16 0
  pub data_1 : get_or second 19 0 ≡ bar_digit (get_or first 17 0)

abbrev pub TwoBitPilots : Type 0
TwoBitPilots =
    (format slot tpc : ℕ) (d tfci : List ℕ) → 2 ≤ format → format < 4 → slot < 15 → map_verdict format slot 1 tpc d tfci (format_of format).slot ≡ done
    → LastBlock slot (sent_of format slot 0 tpc d tfci) (sent_of format slot 1 tpc d tfci)

-- the two streams are orthogonal over each encoded block, by the real values of their digits: the law of docs/STTD.md
abbrev pub Orthogonal : Type 0
Orthogonal =
    (format slot : ℕ) (first : List ℕ) → length first ≡ (format_of format).slot → (k : ℕ) → 4 * k + 4 ≤ coded_to format - coded_from format
    → Cancel (map digit_value (coded format first)) (map digit_value (coded format (second_of format slot first))) (2 * k) 2

-- ---- table 14, by a second rule

-- symbol k of a pattern
abbrev pub symbol_at : ℕ → List ℕ → List ℕ
symbol_at k pattern = take 2 (drop (2 * k) pattern)

-- symbols j and k of antenna 2's pattern are antenna 1's, encoded as one block
abbrev pub EncodesAt : ℕ → ℕ → List ℕ → List ℕ → Type 0
EncodesAt j k one two = symbol_at j two ++ symbol_at k two ≡ sttd bar_digit (symbol_at j one ++ symbol_at k one)

pub record EightBits (one two : List ℕ) : Type 0 where
  pub encoded_1_3 : EncodesAt 1 3 one two
  pub symbol_0 : symbol_at 0 two ≡ 1 ∷ 1 ∷ []
  pub symbol_2 : symbol_at 2 two ≡ 0 ∷ 0 ∷ []

pub record SixteenBits (one two : List ℕ) : Type 0 where
  pub front : EightBits one two
  pub encoded_5_7 : EncodesAt 5 7 one two
  pub symbol_4 : symbol_at 4 two ≡ 1 ∷ 1 ∷ []
  pub symbol_6 : symbol_at 6 two ≡ 0 ∷ 0 ∷ []

-- 4 bits are encoded; of 8 and 16 the symbols that hold synchronisation words are, and the others are as they are printed; what is printed for two bits is what the last block gives,
-- whatever data digits stand before them
pub record Pinned (slot : ℕ) : Type 0 where
  pub four : second_pilot 4 slot ≡ sttd bar_digit (pilot_of 4 slot)
  pub eight : EightBits (pilot_of 8 slot) (second_pilot 8 slot)
  pub sixteen : SixteenBits (pilot_of 16 slot) (second_pilot 16 slot)
  pub two : (a b : ℕ) → sttd bar_digit (a ∷ b ∷ pilot_of 2 slot) ≡ second_pilot 2 slot ++ (a ∷ bar_digit b ∷ [])

abbrev pub SecondPinned : Type 0
SecondPinned = (slot : ℕ) → slot < 15 → Pinned slot

-- ---- one outcome, and room for it

abbrev pub MapOnce : Type 0
MapOnce =
    (format slot antenna tpc : ℕ) (d tfci out : List ℕ) (a b : Verdict) (x y : List ℕ) → Map format slot antenna tpc d tfci out a x → Map format slot antenna tpc d tfci out b y
    → (a ≡ b) × (x ≡ y)

abbrev pub ReadOnce : Type 0
ReadOnce =
    (format slot : ℕ) (first second d tfci : List ℕ) (a b : Command) (x y s t : List ℕ) → Read format slot first second d tfci a x s → Read format slot first second d tfci b y t
    → (a ≡ b) × (x ≡ y) × (s ≡ t)

-- number, place and command fit the fields of a packed answer
pub record Packs : Type 0 where
  pub map_narrow : (format slot antenna tpc : ℕ) (d tfci : List ℕ) (out_length : ℕ) → Narrow (map_verdict format slot antenna tpc d tfci out_length)
  pub read_narrow : (format slot : ℕ) (first second : List ℕ) (data_length tfci_length : ℕ) → Narrow (read_verdict format slot first second data_length tfci_length)
  pub command_small : (format slot : ℕ) (first second d tfci : List ℕ) (answer : Command) (x t : List ℕ) → Read format slot first second d tfci answer x t → answer.tpc < 65536
