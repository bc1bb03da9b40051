-- docs/RULES.md, 'DPCH slot'; TS 25.211, 5.3.2, table 12: the pilot bits.
-- Assumes nothing.
use Rattle.std.specs.Prelude.{ℕ, ◌/◌, ◌%◌, cond, List, [], ◌∷◌, map, get_or, take, drop, eqb}
use Rattle.run.specs.Fields.{joined}

-- symbols 1, 3, 5, 7 for slots 0 to 14: a symbol is written as its two bits, 01 as 1 and 00 as 0
unfoldable pub symbols1 : List ℕ
symbols1 = 11 ∷ 0 ∷ 1 ∷ 0 ∷ 10 ∷ 11 ∷ 11 ∷ 10 ∷ 1 ∷ 11 ∷ 1 ∷ 10 ∷ 10 ∷ 0 ∷ 0 ∷ []

unfoldable pub symbols3 : List ℕ
symbols3 = 10 ∷ 10 ∷ 1 ∷ 0 ∷ 1 ∷ 10 ∷ 0 ∷ 0 ∷ 10 ∷ 11 ∷ 1 ∷ 11 ∷ 0 ∷ 11 ∷ 11 ∷ []

unfoldable pub symbols5 : List ℕ
symbols5 = 11 ∷ 11 ∷ 10 ∷ 1 ∷ 11 ∷ 1 ∷ 10 ∷ 10 ∷ 0 ∷ 0 ∷ 11 ∷ 0 ∷ 1 ∷ 0 ∷ 10 ∷ []

unfoldable pub symbols7 : List ℕ
symbols7 = 10 ∷ 0 ∷ 0 ∷ 10 ∷ 11 ∷ 1 ∷ 11 ∷ 0 ∷ 11 ∷ 11 ∷ 10 ∷ 10 ∷ 1 ∷ 0 ∷ 1 ∷ []

-- the eight symbols of a slot: 0, 2, 4 and 6 are 11
unfoldable pub symbols_of : ℕ → List ℕ
symbols_of slot =
    11 ∷ get_or symbols1 slot 0 ∷ 11 ∷ get_or symbols3 slot 0 ∷ 11 ∷ get_or symbols5 slot 0 ∷ 11 ∷ get_or symbols7 slot 0 ∷ []

abbrev pub bits_of : ℕ → List ℕ
bits_of symbol = symbol / 10 ∷ symbol % 10 ∷ []

-- the 16-bit pattern of a slot
unfoldable pub pilot_row : ℕ → List ℕ
pilot_row slot = joined (map bits_of (symbols_of slot))

-- what a pattern of so many bits is the beginning of: symbol 1 for two bits, else the row
unfoldable pub pilot_source : ℕ → ℕ → List ℕ
pilot_source bits slot = cond (eqb bits 2) (take 2 (drop 2 (pilot_row slot))) (pilot_row slot)

-- which symbols a pattern of so many bits has: all, 0 to 3, 0 and 1, 1 alone
unfoldable pub symbols_for : ℕ → List ℕ
symbols_for bits =
    cond (eqb bits 16) (0 ∷ 1 ∷ 2 ∷ 3 ∷ 4 ∷ 5 ∷ 6 ∷ 7 ∷ [])
    (cond (eqb bits 8) (0 ∷ 1 ∷ 2 ∷ 3 ∷ [])
    (cond (eqb bits 4) (0 ∷ 1 ∷ [])
    (cond (eqb bits 2) (1 ∷ []) [])))

-- the pilot of so many bits in a slot
unfoldable pub pilot_of : ℕ → ℕ → List ℕ
pilot_of bits slot = joined (map (λ (k : ℕ). bits_of (get_or (symbols_of slot) k 0)) (symbols_for bits))
