-- Figure 8A pinned: antenna 2's block of eight digits is the space time block code of antenna 1's two 16QAM symbols, and no other choice of places and bars is.
-- docs/RULES.md, 'HS-PDSCH'; docs/DECISIONS.md. Each statement is proved in proofs/Symbols.antt under its name in small letters.
-- Assumes nothing.
use Rattle.std.specs.Prelude.{ℕ, ◌+◌, ◌*◌, ◌<◌, ◌≡◌, List, [], ◌∷◌, map, ℤ, pos, neg_ℤ, ◌*ℤ◌, length, get_or}
use Rattle.run.specs.First.{Every, at_most}
use Rattle.run.specs.Parts.{part}
use Rattle.sttd.specs.Antenna2.{Cancel, plus}
use Rattle.sttd.specs.Blocks.{blockwise}
use Rattle.sttd.specs.Rule.{sttd, bar_digit, digit_value}
use Rattle.hspdsch.specs.Rule.{Pick, plain, bar, picked, figure8_a, second_of}

-- a part of a 16QAM symbol: the sign, +1 for 0 and -1 for 1, times the size, 1 for 0 and 3 for 1 (TS 25.213: i1 and q1 are the signs, i2 and q2 the sizes)
unfoldable pub level : ℕ → ℕ → ℤ
level sign size = digit_value sign *ℤ pos (1 + 2 * size)

-- the parts of the symbol whose digits i1 q1 i2 q2 stand in a block from place k on
abbrev pub in_phase : List ℕ → ℕ → ℤ
in_phase b k = level (get_or b k 0) (get_or b (k + 2) 0)

abbrev pub quadrature : List ℕ → ℕ → ℤ
quadrature b k = level (get_or b (k + 1) 0) (get_or b (k + 3) 0)

-- block c is what antenna 2 sends where antenna 1 sends b, whose symbols are S1, S2: -conj(S2), conj(S1)
pub record Coded (b c : List ℕ) : Type 0 where
  pub first_re : in_phase c 0 ≡ neg_ℤ (in_phase b 4)
  pub first_im : quadrature c 0 ≡ quadrature b 4
  pub second_re : in_phase c 4 ≡ in_phase b 0
  pub second_im : quadrature c 4 ≡ neg_ℤ (quadrature b 0)

-- so it is for every block ..
abbrev pub FigureCodes : Type 0
FigureCodes = (b : List ℕ) → Coded b (picked bar_digit figure8_a b)

-- .. and no other eight places and bars do that for all blocks of eight bits
abbrev pub FigureOnly : Type 0
FigureOnly =
    (ps : List Pick) → length ps ≡ 8 → ((b : List ℕ) → length b ≡ 8 → Every (at_most 1 b) 8 → Coded b (picked bar_digit ps b)) → ps ≡ figure8_a

-- of a subframe of format 1, block after block
abbrev pub SubframeCodes : Type 0
SubframeCodes = (d : List ℕ) → length d ≡ 1920 → (k : ℕ) → k < 240 → Coded (part k 8 d) (part k 8 (second_of 1 d))

-- a QPSK symbol is two digits. Of format 0 the same holds of a block of four: -conj(S2), conj(S1)
pub record CodedFour (b c : List ℤ) : Type 0 where
  pub first_re : get_or c 0 (pos 0) ≡ neg_ℤ (get_or b 2 (pos 0))
  pub first_im : get_or c 1 (pos 0) ≡ get_or b 3 (pos 0)
  pub second_re : get_or c 2 (pos 0) ≡ get_or b 0 (pos 0)
  pub second_im : get_or c 3 (pos 0) ≡ neg_ℤ (get_or b 1 (pos 0))

abbrev pub SubframeCodesFours : Type 0
SubframeCodesFours =
    (d : List ℕ) → length d ≡ 960 → (k : ℕ) → k < 240 → CodedFour (map digit_value (part k 4 d)) (map digit_value (part k 4 (second_of 0 d)))

-- the laws of docs/STTD.md of format 0: encoding twice puts a bar on every digit, the two streams are orthogonal over each block, and what antenna 2 would send of a sum of two data runs, by their
-- values, is the sum of what it sends of each
pub record Qpsk (d : List ℕ) : Type 0 where
  pub twice : second_of 0 (second_of 0 d) ≡ map bar_digit d
  pub orthogonal : (k : ℕ) → k < 240 → Cancel (map digit_value d) (map digit_value (second_of 0 d)) (2 * k) 2
  pub sums : (e : List ℕ) → length e ≡ 960
      → sttd neg_ℤ (plus (map digit_value d) (map digit_value e)) ≡ plus (map digit_value (second_of 0 d)) (map digit_value (second_of 0 e))

abbrev pub QpskLaws : Type 0
QpskLaws = (d : List ℕ) → length d ≡ 960 → Qpsk d

-- of format 1, encoding twice puts a bar on the signs alone
abbrev pub signs_barred : List Pick
signs_barred = bar 0 ∷ bar 1 ∷ plain 2 ∷ plain 3 ∷ bar 4 ∷ bar 5 ∷ plain 6 ∷ plain 7 ∷ []

abbrev pub TwiceSigns : Type 0
TwiceSigns = (d : List ℕ) → length d ≡ 1920 → second_of 1 (second_of 1 d) ≡ blockwise 240 8 (picked bar_digit signs_barred) d
