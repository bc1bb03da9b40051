-- Demand 2 for the HS-PDSCH (docs/RULES.md, 'The demands' and 'HS-PDSCH'), and antenna 2 place by place. Each statement is proved in proofs/Exact.antt under its name in small letters.
-- Assumes nothing.
use Rattle.std.specs.Prelude.{ℕ, ◌+◌, ◌*◌, ◌≤◌, ◌<◌, ◌≡◌, List, ◌↔◌, length, get_or}
use Rattle.run.specs.Verdict.{Verdict}
use Rattle.run.specs.Pairs.{PairGiven}
use Rattle.run.specs.Verdicts.{done, Narrow}
use Rattle.sttd.specs.Rule.{bar_digit}
use Rattle.hspdsch.specs.Rule.{size, second_of}
use Rattle.hspdsch.specs.Outcome.{map_verdict, Map, read_verdict, Read}

-- map takes the data, for two subframes of the format's length
abbrev pub TakenBoth : ℕ → List ℕ → Type 0
TakenBoth format d = map_verdict format d (size format) (size format) ≡ done

-- antenna 1 sends the data as it is, and it is handed back as it is
abbrev pub as_it_is : List ℕ → List ℕ
as_it_is d = d

-- some data gives a pair of subframes
abbrev pub Pair : ℕ → List ℕ → List ℕ → Type 0
Pair format antenna1 antenna2 = PairGiven (TakenBoth format) as_it_is (second_of format) antenna1 antenna2

-- read accepts a pair of subframes exactly when some data gives it, and hands back that, of which there is one
pub record Exact (format : ℕ) (antenna1 antenna2 : List ℕ) : Type 0 where
  pub accepts : (read_verdict format antenna1 antenna2 (size format) ≡ done) ↔ Pair format antenna1 antenna2
  pub hands_back : (g : Pair format antenna1 antenna2) → antenna1 ≡ g.fields
  pub one_set : (g h : Pair format antenna1 antenna2) → g.fields ≡ h.fields

abbrev pub ReadExact : Type 0
ReadExact = (format : ℕ) (antenna1 antenna2 : List ℕ) → Exact format antenna1 antenna2

-- the sizes of table 26, and that both antennas send as many digits
pub record Sizes : Type 0 where
  pub qpsk : size 0 ≡ 960
  pub qam : size 1 ≡ 1920
  pub second_long : (format : ℕ) → format ≤ 1 → (d : List ℕ) → length d ≡ size format → length (second_of format d) ≡ size format

-- antenna 2 of format 1, block by block: digits 8k to 8k + 7 for k = 0 to 239
pub record Eight (d c : List ℕ) (i : ℕ) : Type 0 where
  pub at_0 : get_or c i 0 ≡ bar_digit (get_or d (i + 4) 0)
  pub at_1 : get_or c (i + 1) 0 ≡ get_or d (i + 5) 0
  pub at_2 : get_or c (i + 2) 0 ≡ get_or d (i + 6) 0
  pub at_3 : get_or c (i + 3) 0 ≡ get_or d (i + 7) 0
  pub at_4 : get_or c (i + 4) 0 ≡ get_or d i 0
  pub at_5 : get_or c (i + 5) 0 ≡ bar_digit (get_or d (i + 1) 0)
  pub at_6 : get_or c (i + 6) 0 ≡ get_or d (i + 2) 0
  pub at_7 : get_or c (i + 7) 0 ≡ get_or d (i + 3) 0

abbrev pub ByEights : Type 0
ByEights = (d : List ℕ) → length d ≡ 1920 → (k : ℕ) → k < 240 → Eight d (second_of 1 d) (8 * k)

-- .. and of format 0: digits 4k to 4k + 3
pub record Four (d c : List ℕ) (i : ℕ) : Type 0 where
  pub at_0 : get_or c i 0 ≡ bar_digit (get_or d (i + 2) 0)
  pub at_1 : get_or c (i + 1) 0 ≡ get_or d (i + 3) 0
  pub at_2 : get_or c (i + 2) 0 ≡ get_or d i 0
  pub at_3 : get_or c (i + 3) 0 ≡ bar_digit (get_or d (i + 1) 0)

abbrev pub ByFours : Type 0
ByFours = (d : List ℕ) → length d ≡ 960 → (k : ℕ) → k < 240 → Four d (second_of 0 d) (4 * k)

-- antenna 2 alone tells the data too: two runs of data that give one antenna 2 are equal
abbrev pub SecondTells : Type 0
SecondTells =
    (format : ℕ) → format ≤ 1 → (d e : List ℕ) → length d ≡ size format → length e ≡ size format → second_of format d ≡ second_of format e → d ≡ e

-- each promise allows one outcome
abbrev pub MapOnce : Type 0
MapOnce =
    (format : ℕ) (d antenna1 antenna2 : List ℕ) (a b : Verdict) (x1 x2 y1 y2 : List ℕ) → Map format d antenna1 antenna2 a x1 x2 → Map format d antenna1 antenna2 b y1 y2
    → (a ≡ b) × (x1 ≡ y1) × (x2 ≡ y2)

abbrev pub ReadOnce : Type 0
ReadOnce =
    (format : ℕ) (antenna1 antenna2 d : List ℕ) (a b : Verdict) (x y : List ℕ) → Read format antenna1 antenna2 d a x → Read format antenna1 antenna2 d b y → (a ≡ b) × (x ≡ y)

-- number and place fit the 16 and 32 bits that the C boundary has for them
pub record Packs : Type 0 where
  pub map_narrow : (format : ℕ) (d : List ℕ) (length1 length2 : ℕ) → Narrow (map_verdict format d length1 length2)
  pub read_narrow : (format : ℕ) (antenna1 antenna2 : List ℕ) (data_length : ℕ) → Narrow (read_verdict format antenna1 antenna2 data_length)
