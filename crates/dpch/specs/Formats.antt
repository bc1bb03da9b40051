-- docs/RULES.md, 'DPCH slot'; TS 25.211, 5.3.2, table 11 (normal formats): the bits of each field.
-- Assumes nothing.
use Rattle.std.specs.Prelude.{ℕ, List, [], ◌∷◌, get_or}
use Rattle.dpch.specs.declared.Format.{Format}

-- the kinds of formats: normal, A, B
abbrev pub normal : ℕ
normal = 0

abbrev pub kind_a : ℕ
kind_a = 1

abbrev pub kind_b : ℕ
kind_b = 2

-- a row of the table, in its order: Data1, Data2, TPC, TFCI, Pilot, Slot. In the normal formats all fifteen slots of a frame are transmitted
abbrev pub row : ℕ → ℕ → ℕ → ℕ → ℕ → ℕ → Format
row data1 data2 tpc tfci pilot slot =
    record { data1 = data1; data2 = data2; tpc = tpc; tfci = tfci; pilot = pilot; slot = slot; kind = normal; fewest = 15; most = 15 }

-- where the table has no row
abbrev pub no_row : Format
no_row = record { data1 = 0; data2 = 0; tpc = 0; tfci = 0; pilot = 0; slot = 0; kind = 0; fewest = 0; most = 0 }

unfoldable pub formats : List Format
formats =
    row 0 4 2 0 4 10
    ∷ row 0 2 2 2 4 10
    ∷ row 2 14 2 0 2 20
    ∷ row 2 12 2 2 2 20
    ∷ row 2 12 2 0 4 20
    ∷ row 2 10 2 2 4 20
    ∷ row 2 8 2 0 8 20
    ∷ row 2 6 2 2 8 20
    ∷ row 6 28 2 0 4 40
    ∷ row 6 26 2 2 4 40
    ∷ row 6 24 2 0 8 40
    ∷ row 6 22 2 2 8 40
    ∷ row 12 48 4 8 8 80
    ∷ row 28 112 4 8 8 160
    ∷ row 56 232 8 8 16 320
    ∷ row 120 488 8 8 16 640
    ∷ row 248 1000 8 8 16 1280
    ∷ []

-- the format of a number; a row of zeros where the table has none
unfoldable pub format_of : ℕ → Format
format_of n = get_or formats n no_row

-- the fields in the order in which they stand in the slot: Data1, TPC, TFCI, Data2, pilot
abbrev pub widths : Format → List ℕ
widths f = f.data1 ∷ f.tpc ∷ f.tfci ∷ f.data2 ∷ f.pilot ∷ []
