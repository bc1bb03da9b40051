-- docs/RULES.md, 'Compressed frames'; TS 25.211, 5.3.2, table 11 (formats A and B): the bits of each field; and the repetition of TPC and pilot bits in B.
-- Assumes nothing.
use Rattle.std.specs.Prelude.{ℕ, ◌/◌, cond, List, [], ◌∷◌, get_or, take, drop, eqb}
use Rattle.dpch.specs.declared.Format.{Format}
use Rattle.dpch.specs.Formats.{normal, kind_a, kind_b, no_row, format_of}
use Rattle.dpch.specs.Pilots.{pilot_row, pilot_source, pilot_of}

-- a row of a compressed format, in the table's order: Data1, Data2, TPC, TFCI, Pilot, Slot. 8 to 14 of a frame's slots are transmitted
abbrev pub compressed_row : ℕ → ℕ → ℕ → ℕ → ℕ → ℕ → ℕ → Format
compressed_row kind data1 data2 tpc tfci pilot slot =
    record { data1 = data1; data2 = data2; tpc = tpc; tfci = tfci; pilot = pilot; slot = slot; kind = kind; fewest = 8; most = 14 }

abbrev pub row_a : ℕ → ℕ → ℕ → ℕ → ℕ → ℕ → Format
row_a = compressed_row kind_a

abbrev pub row_b : ℕ → ℕ → ℕ → ℕ → ℕ → ℕ → Format
row_b = compressed_row kind_b

-- 0A to 16A; there is no 1A
unfoldable pub formats_a : List Format
formats_a =
    row_a 0 4 2 0 4 10
    ∷ no_row
    ∷ row_a 2 14 2 0 2 20
    ∷ row_a 2 10 2 4 2 20
    ∷ row_a 2 12 2 0 4 20
    ∷ row_a 2 8 2 4 4 20
    ∷ row_a 2 8 2 0 8 20
    ∷ row_a 2 4 2 4 8 20
    ∷ row_a 6 28 2 0 4 40
    ∷ row_a 6 24 2 4 4 40
    ∷ row_a 6 24 2 0 8 40
    ∷ row_a 6 20 2 4 8 40
    ∷ row_a 12 40 4 16 8 80
    ∷ row_a 28 104 4 16 8 160
    ∷ row_a 56 224 8 16 16 320
    ∷ row_a 120 480 8 16 16 640
    ∷ row_a 248 992 8 16 16 1280
    ∷ []

-- 0B to 15B; there is no 16B
unfoldable pub formats_b : List Format
formats_b =
    row_b 0 8 4 0 8 20
    ∷ row_b 0 4 4 4 8 20
    ∷ row_b 4 28 4 0 4 40
    ∷ row_b 4 24 4 4 4 40
    ∷ row_b 4 24 4 0 8 40
    ∷ row_b 4 20 4 4 8 40
    ∷ row_b 4 16 4 0 16 40
    ∷ row_b 4 12 4 4 16 40
    ∷ row_b 12 56 4 0 8 80
    ∷ row_b 12 52 4 4 8 80
    ∷ row_b 12 48 4 0 16 80
    ∷ row_b 12 44 4 4 16 80
    ∷ row_b 24 96 8 16 16 160
    ∷ row_b 56 224 8 16 16 320
    ∷ row_b 112 464 16 16 32 640
    ∷ row_b 240 976 16 16 32 1280
    ∷ []

-- the row of a kind and a number; a row of zeros where the table has none
unfoldable pub format_in : ℕ → ℕ → Format
format_in kind n =
    cond (eqb kind normal) (format_of n)
    (cond (eqb kind kind_a) (get_or formats_a n no_row)
    (cond (eqb kind kind_b) (get_or formats_b n no_row) no_row))

-- x1 x2 x1 x2 x3 x4 x3 x4 ..: each pair of bits twice
unfoldable pub pairs_twice : List ℕ → List ℕ
pairs_twice [] = []
pairs_twice (x ∷ []) = x ∷ []
pairs_twice (x ∷ y ∷ rest) = x ∷ y ∷ x ∷ y ∷ pairs_twice rest

-- the pilot of so many bits in a slot, of a kind: in B the normal pattern of half as many bits, each pair twice
unfoldable pub pilot_for : ℕ → ℕ → ℕ → List ℕ
pilot_for kind bits slot = cond (eqb kind kind_b) (pairs_twice (pilot_of (bits / 2) slot)) (pilot_of bits slot)

-- what such a pattern is the beginning of
unfoldable pub source_for : ℕ → ℕ → ℕ → List ℕ
source_for kind bits slot =
    cond (eqb kind kind_b)
    (cond (eqb bits 4) (take 4 (drop 4 (pairs_twice (pilot_row slot)))) (pairs_twice (pilot_row slot)))
    (pilot_source bits slot)
