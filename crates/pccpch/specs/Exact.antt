-- Demand 2 for the P-CCPCH (docs/RULES.md, 'The demands' and 'P-CCPCH'), and what else TS 25.211, 5.3.3.3.1, says of its frames. Each statement is proved in proofs/Exact.antt under its name in small letters.
-- Assumes nothing.
use Rattle.std.specs.Prelude.{ℕ, ◌+◌, ◌*◌, ◌%◌, ◌<◌, ◌≤◌, ◌≡◌, true, false, List, ◌↔◌, length, get_or}
use Rattle.run.specs.Verdict.{Verdict}
use Rattle.run.specs.Digits.{dtx}
use Rattle.run.specs.Verdicts.{done, Narrow}
use Rattle.sttd.specs.Rule.{bar_digit}
use Rattle.pccpch.specs.Rule.{place, frame_of, second_of, data_in, silent}
use Rattle.pccpch.specs.Outcome.{map_verdict, Map, read_verdict, Read}

-- data gives a pair of frames: map takes it, and these are what it writes
pub record Gives (digits antenna1 antenna2 : List ℕ) : Type 0 where
  pub taken : map_verdict digits 300 300 ≡ done
  pub first : frame_of digits ≡ antenna1
  pub second : second_of digits ≡ antenna2

-- read accepts a pair of frames exactly when some data gives them, and hands back that, of which there is one
pub record Exact (antenna1 antenna2 : List ℕ) : Type 0 where
  pub accepts : (read_verdict antenna1 antenna2 270 ≡ done) ↔ ((digits : List ℕ) × Gives digits antenna1 antenna2)
  pub hands_back : (digits : List ℕ) → Gives digits antenna1 antenna2 → data_in antenna1 ≡ digits
  pub one_set : (digits others : List ℕ) → Gives digits antenna1 antenna2 → Gives others antenna1 antenna2 → digits ≡ others

abbrev pub ReadExact : Type 0
ReadExact = (antenna1 antenna2 : List ℕ) → Exact antenna1 antenna2

-- the position rule takes the 270 data digits one to one onto the places that are not silent ..
pub record Positions : Type 0 where
  pub within : (d : ℕ) → d < 270 → place d < 300
  pub sounds : (d : ℕ) → d < 270 → silent (place d) ≡ false
  pub one_to_one : (d e : ℕ) → place d ≡ place e → d ≡ e
  pub onto : (k : ℕ) → k < 300 → silent k ≡ false → (d : ℕ) × (d < 270) × (place d ≡ k)

-- .. where the digits stand; the silent places are DTX
pub record Placed (digits : List ℕ) : Type 0 where
  pub long : length (frame_of digits) ≡ 300
  pub stands : (d : ℕ) → d < 270 → get_or (frame_of digits) (place d) 0 ≡ get_or digits d 0
  pub quiet : (k : ℕ) → k < 300 → silent k ≡ true → get_or (frame_of digits) k 0 ≡ dtx

abbrev pub FramePlaced : Type 0
FramePlaced = (digits : List ℕ) → Placed digits

-- .. and of data that map takes no other place is: on both antennas DTX stands where the channel is silent, and nowhere else
pub record Quiet (digits : List ℕ) (k : ℕ) : Type 0 where
  pub on_first : (get_or (frame_of digits) k 0 ≡ dtx) ↔ (silent k ≡ true)
  pub on_second : (get_or (second_of digits) k 0 ≡ dtx) ↔ (silent k ≡ true)

abbrev pub DtxPlaces : Type 0
DtxPlaces = (digits : List ℕ) → map_verdict digits 300 300 ≡ done → (k : ℕ) → k < 300 → Quiet digits k

-- antenna 2, block by block of the data: digits 4k to 4k + 3 for k = 0 to 66
pub record Block (digits : List ℕ) (k : ℕ) : Type 0 where
  pub first : get_or (second_of digits) (place (4 * k)) 0 ≡ bar_digit (get_or digits (4 * k + 2) 0)
  pub second : get_or (second_of digits) (place (4 * k + 1)) 0 ≡ get_or digits (4 * k + 3) 0
  pub third : get_or (second_of digits) (place (4 * k + 2)) 0 ≡ get_or digits (4 * k) 0
  pub fourth : get_or (second_of digits) (place (4 * k + 3)) 0 ≡ bar_digit (get_or digits (4 * k + 1) 0)

abbrev pub ByBlocks : Type 0
ByBlocks = (digits : List ℕ) → length digits ≡ 270 → (k : ℕ) → k < 67 → Block digits k

-- a block crosses from each even slot n into slot n + 1: it is digits 18 and 19 of the one and 2 and 3 of the other
pub record Shared (antenna1 antenna2 : List ℕ) (n : ℕ) : Type 0 where
  pub last_0 : get_or antenna2 (20 * n + 18) 0 ≡ bar_digit (get_or antenna1 (20 * (n + 1) + 2) 0)
  pub last_1 : get_or antenna2 (20 * n + 19) 0 ≡ get_or antenna1 (20 * (n + 1) + 3) 0
  pub next_0 : get_or antenna2 (20 * (n + 1) + 2) 0 ≡ get_or antenna1 (20 * n + 18) 0
  pub next_1 : get_or antenna2 (20 * (n + 1) + 3) 0 ≡ bar_digit (get_or antenna1 (20 * n + 19) 0)

abbrev pub EvenSlots : Type 0
EvenSlots = (digits : List ℕ) → length digits ≡ 270 → (n : ℕ) → n % 2 ≡ 0 → n < 14 → Shared (frame_of digits) (second_of digits) n

-- .. but not behind slot 14, whose last two digits are the same on both antennas
abbrev pub LastTwo : Type 0
LastTwo = (digits : List ℕ) → length digits ≡ 270 → (k : ℕ) → 298 ≤ k → k < 300 → get_or (second_of digits) k 0 ≡ get_or (frame_of digits) k 0

-- each promise allows one outcome
abbrev pub MapOnce : Type 0
MapOnce =
    (digits antenna1 antenna2 : List ℕ) (a b : Verdict) (x1 x2 y1 y2 : List ℕ) → Map digits antenna1 antenna2 a x1 x2 → Map digits antenna1 antenna2 b y1 y2
    → (a ≡ b) × (x1 ≡ y1) × (x2 ≡ y2)

abbrev pub ReadOnce : Type 0
ReadOnce =
    (antenna1 antenna2 digits : List ℕ) (a b : Verdict) (x y : List ℕ) → Read antenna1 antenna2 digits a x → Read antenna1 antenna2 digits b y → (a ≡ b) × (x ≡ y)

-- number and place fit the 16 and 32 bits that the C boundary has for them
pub record Packs : Type 0 where
  pub map_narrow : (digits : List ℕ) (length1 length2 : ℕ) → Narrow (map_verdict digits length1 length2)
  pub read_narrow : (antenna1 antenna2 : List ℕ) (data_length : ℕ) → Narrow (read_verdict antenna1 antenna2 data_length)
