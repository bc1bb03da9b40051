-- docs/RULES.md, 'HS-PDSCH'; TS 25.211, 5.3.3.13, table 26, and 5.3.1.1.1, figures 8 and 8A: the subframe of three slots on each of two antennas.
-- Assumes nothing.
use Rattle.std.specs.Prelude.{ℕ, ◌*◌, ◌/◌, Bool, true, false, cond, List, [], ◌∷◌, map, eqb, length, get_or}
use Rattle.sttd.specs.Blocks.{blockwise}
use Rattle.sttd.specs.Rule.{sttd, bar_digit}

-- table 26: the digits of a slot of format 0, QPSK, and of format 1, 16QAM
unfoldable pub slot_sizes : List ℕ
slot_sizes = 320 ∷ 640 ∷ []

-- the digits of a subframe: three slots; 0 where the table has no such format. Data is the only field, and antenna 1 sends it as it is
unfoldable pub size : ℕ → ℕ
size format = 3 * get_or slot_sizes format 0

-- one digit of a block on antenna 2: the place in the block of the digit on antenna 1 that it is, and whether a bar stands over it
pub record Pick : Type 0 where
  pub place : ℕ
  pub barred : Bool

abbrev pub plain : ℕ → Pick
plain k = record { place = k; barred = false }

abbrev pub bar : ℕ → Pick
bar k = record { place = k; barred = true }

-- the digit picked from a block, and a block made of such, over the meaning of the bar
unfoldable pub pick : (ℕ → ℕ) → List ℕ → Pick → ℕ
pick barOf b p = cond p.barred (barOf (get_or b p.place 0)) (get_or b p.place 0)

unfoldable pub picked : (ℕ → ℕ) → List Pick → List ℕ → List ℕ
picked barOf ps b = map (pick barOf b) ps

-- 16QAM: b0 .. b7 on antenna 1 make bar b4, b5, b6, b7, b0, bar b1, b2, b3 on antenna 2 (figure 8A; docs/DECISIONS.md says how it was settled)
abbrev pub figure8_a : List Pick
figure8_a = bar 4 ∷ plain 5 ∷ plain 6 ∷ plain 7 ∷ plain 0 ∷ bar 1 ∷ plain 2 ∷ plain 3 ∷ []

-- block by block: a subframe of 16QAM has 240 blocks of eight
unfoldable pub eights : (ℕ → ℕ) → List ℕ → List ℕ
eights barOf d = blockwise (length d / 8) 8 (picked barOf figure8_a) d

-- format 0 by the STTD rule in fours, format 1 in eights
unfoldable pub coded : (ℕ → ℕ) → ℕ → List ℕ → List ℕ
coded barOf format d = cond (eqb format 0) (sttd barOf d) (eights barOf d)

-- what antenna 2 sends of the data
abbrev pub second_of : ℕ → List ℕ → List ℕ
second_of format d = coded bar_digit format d
