-- docs/RULES.md, 'DPCH on the second antenna'; TS 25.211, 5.3.2.1, table 14: the pilot bits of antenna 2, as printed.
-- Assumes nothing.
use Rattle.std.specs.Prelude.{ℕ, cond, ◌||◌, List, [], ◌∷◌, map, get_or, replicate, eqb}
use Rattle.run.specs.Fields.{joined, field}
use Rattle.dpch.specs.Pilots.{bits_of, pilot_row}

-- a row for each slot: the symbols of the patterns of 2, 4, 8 and 16 bits side by side. A symbol is written as its two bits, 01 as 1 and 00 as 0
unfoldable pub table14 : List (List ℕ)
table14 =
    (1 ∷ 1 ∷ 10 ∷ 11 ∷ 0 ∷ 0 ∷ 10 ∷ 11 ∷ 0 ∷ 0 ∷ 10 ∷ 11 ∷ 0 ∷ 0 ∷ 10 ∷ [])
    ∷ (10 ∷ 10 ∷ 10 ∷ 11 ∷ 0 ∷ 0 ∷ 1 ∷ 11 ∷ 0 ∷ 0 ∷ 1 ∷ 11 ∷ 10 ∷ 0 ∷ 10 ∷ [])
    ∷ (11 ∷ 11 ∷ 10 ∷ 11 ∷ 11 ∷ 0 ∷ 0 ∷ 11 ∷ 11 ∷ 0 ∷ 0 ∷ 11 ∷ 10 ∷ 0 ∷ 11 ∷ [])
    ∷ (10 ∷ 10 ∷ 10 ∷ 11 ∷ 10 ∷ 0 ∷ 1 ∷ 11 ∷ 10 ∷ 0 ∷ 1 ∷ 11 ∷ 0 ∷ 0 ∷ 0 ∷ [])
    ∷ (0 ∷ 0 ∷ 10 ∷ 11 ∷ 11 ∷ 0 ∷ 11 ∷ 11 ∷ 11 ∷ 0 ∷ 11 ∷ 11 ∷ 1 ∷ 0 ∷ 10 ∷ [])
    ∷ (1 ∷ 1 ∷ 10 ∷ 11 ∷ 0 ∷ 0 ∷ 10 ∷ 11 ∷ 0 ∷ 0 ∷ 10 ∷ 11 ∷ 11 ∷ 0 ∷ 0 ∷ [])
    ∷ (1 ∷ 1 ∷ 10 ∷ 11 ∷ 10 ∷ 0 ∷ 10 ∷ 11 ∷ 10 ∷ 0 ∷ 10 ∷ 11 ∷ 1 ∷ 0 ∷ 11 ∷ [])
    ∷ (0 ∷ 0 ∷ 10 ∷ 11 ∷ 10 ∷ 0 ∷ 11 ∷ 11 ∷ 10 ∷ 0 ∷ 11 ∷ 11 ∷ 10 ∷ 0 ∷ 11 ∷ [])
    ∷ (11 ∷ 11 ∷ 10 ∷ 11 ∷ 0 ∷ 0 ∷ 0 ∷ 11 ∷ 0 ∷ 0 ∷ 0 ∷ 11 ∷ 1 ∷ 0 ∷ 1 ∷ [])
    ∷ (1 ∷ 1 ∷ 10 ∷ 11 ∷ 1 ∷ 0 ∷ 10 ∷ 11 ∷ 1 ∷ 0 ∷ 10 ∷ 11 ∷ 1 ∷ 0 ∷ 1 ∷ [])
    ∷ (11 ∷ 11 ∷ 10 ∷ 11 ∷ 11 ∷ 0 ∷ 0 ∷ 11 ∷ 11 ∷ 0 ∷ 0 ∷ 11 ∷ 0 ∷ 0 ∷ 10 ∷ [])
    ∷ (0 ∷ 0 ∷ 10 ∷ 11 ∷ 1 ∷ 0 ∷ 11 ∷ 11 ∷ 1 ∷ 0 ∷ 11 ∷ 11 ∷ 0 ∷ 0 ∷ 1 ∷ [])
    ∷ (0 ∷ 0 ∷ 10 ∷ 11 ∷ 10 ∷ 0 ∷ 11 ∷ 11 ∷ 10 ∷ 0 ∷ 11 ∷ 11 ∷ 11 ∷ 0 ∷ 0 ∷ [])
    ∷ (10 ∷ 10 ∷ 10 ∷ 11 ∷ 1 ∷ 0 ∷ 1 ∷ 11 ∷ 1 ∷ 0 ∷ 1 ∷ 11 ∷ 10 ∷ 0 ∷ 1 ∷ [])
    ∷ (10 ∷ 10 ∷ 10 ∷ 11 ∷ 1 ∷ 0 ∷ 1 ∷ 11 ∷ 1 ∷ 0 ∷ 1 ∷ 11 ∷ 11 ∷ 0 ∷ 11 ∷ [])
    ∷ []

-- the digits of a slot's row; zeros where the table has none
unfoldable pub printed14 : ℕ → List ℕ
printed14 slot = joined (map bits_of (get_or table14 slot (replicate 15 0)))

-- the digits of each pattern
abbrev pub patterns14 : List ℕ
patterns14 = 2 ∷ 4 ∷ 8 ∷ 16 ∷ []

-- antenna 2's pilot of so many bits in a slot: its part of the row. No pilot has another number of bits
unfoldable pub second_pilot : ℕ → ℕ → List ℕ
second_pilot bits slot =
    cond (eqb bits 16) (field 3 patterns14 (printed14 slot))
    (cond (eqb bits 8) (field 2 patterns14 (printed14 slot))
    (cond (eqb bits 4) (field 1 patterns14 (printed14 slot))
    (cond (eqb bits 2) (field 0 patterns14 (printed14 slot)) [])))

-- the 16-bit pattern of a slot on an antenna: number 0 is antenna 1, any other antenna 2
abbrev pub row_on : ℕ → ℕ → List ℕ
row_on antenna slot = cond (eqb antenna 0) (pilot_row slot) (second_pilot 16 slot)

-- what a pattern of so many bits is the beginning of: the 4-bit pattern for two and four bits, else the 16-bit one
unfoldable pub second_source : ℕ → ℕ → List ℕ
second_source bits slot = cond (eqb bits 2 || eqb bits 4) (second_pilot 4 slot) (second_pilot 16 slot)
