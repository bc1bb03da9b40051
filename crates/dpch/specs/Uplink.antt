-- docs/RULES.md, 'Uplink DPDCH' and 'Uplink DPCCH'; TS 25.211, 5.2.1.1, tables 1 and 2 (normal formats): the bits of each field.
-- Assumes nothing.
use Rattle.std.specs.Prelude.{ℕ, List, [], ◌∷◌, get_or}
use Rattle.dpch.specs.declared.Dpcch.{Dpcch}

-- the data bits of a DPDCH slot, which has no other field
unfoldable pub dpdch_sizes : List ℕ
dpdch_sizes = 10 ∷ 20 ∷ 40 ∷ 80 ∷ 160 ∷ 320 ∷ 640 ∷ []

-- .. of a format; 0 where the table has none
unfoldable pub dpdch_size : ℕ → ℕ
dpdch_size n = get_or dpdch_sizes n 0

-- a row of the DPCCH's table, in its order: Slot, Pilot, TPC, TFCI, FBI
abbrev pub dpcch_row : ℕ → ℕ → ℕ → ℕ → ℕ → Dpcch
dpcch_row slot pilot tpc tfci fbi = record { pilot = pilot; tfci = tfci; fbi = fbi; tpc = tpc; slot = slot }

unfoldable pub dpcch_formats : List Dpcch
dpcch_formats =
    dpcch_row 10 6 2 2 0
    ∷ dpcch_row 10 8 2 0 0
    ∷ dpcch_row 10 5 2 2 1
    ∷ dpcch_row 10 7 2 0 1
    ∷ []

-- the format of a number; a row of zeros where the table has none
unfoldable pub dpcch_format : ℕ → Dpcch
dpcch_format n = get_or dpcch_formats n (dpcch_row 0 0 0 0 0)

-- the fields in the order in which they stand in the slot: pilot, TFCI, FBI, TPC
abbrev pub dpcch_widths : Dpcch → List ℕ
dpcch_widths f = f.pilot ∷ f.tfci ∷ f.fbi ∷ f.tpc ∷ []
