-- docs/RULES.md, 'Marked examples': P1 to P12, one row each, in its order. The theorem, `MarkedExamples`, is proved in
-- proofs/Examples.antt as `marked_examples`. `cases` runs the calls themselves on the same examples.
-- Assumes nothing.
use Rattle.std.specs.Prelude.{ℕ, ◌≡◌, List, [], ◌∷◌, ◌++◌, map, replicate, ℤ, pos, neg_ℤ}
use Rattle.run.specs.Fields.{joined}
use Rattle.run.specs.Verdicts.{done, refused}
use Rattle.correlator.specs.Complexes.{cx}
use Rattle.marked.specs.Outcome.{Left, nothing, digits, values, q, Outcome, slot_map, sttd_digits, pich_q, aich_map, aich_read, combine_clean}

-- a row: the number of the example, what the definitions of the promises give, and what the page says
pub record Row : Type 0 where
  pub number : ℕ
  pub given : Outcome
  pub said : Outcome

abbrev pub row : ℕ → Outcome → Outcome → Row
row number given said = record { number = number; given = given; said = said }

-- the page says what is left, of a call that is done; or number and place
abbrev pub leaving : Left → Outcome
leaving new = record { verdict = done; left = new }

abbrev pub refusing : ℕ → ℕ → Outcome
refusing number place = record { verdict = refused number place; left = nothing }

abbrev pub minus : ℕ → ℤ
minus n = neg_ℤ (pos n)

-- a number that stands at signature 5, and 0 at the others
abbrev pub only5 : ℤ → List ℤ
only5 x = replicate 5 (pos 0) ++ (x ∷ replicate 10 (pos 0))

-- P3 and P4 name no slot, command, TFCI or data, and no length of the lent run: their rows hold for any
unfoldable pub table : (slot tpc : ℕ) (tfci d : List ℕ) (lent : ℕ) → List Row
table slot tpc tfci d lent =
    -- P1 format 0, slot 0, TPC 0, data 1010: 0010101111
    row 1 (slot_map 0 0 0 [] (1 ∷ 0 ∷ 1 ∷ 0 ∷ []) 10) (leaving (digits (0 ∷ 0 ∷ 1 ∷ 0 ∷ 1 ∷ 0 ∷ 1 ∷ 1 ∷ 1 ∷ 1 ∷ [])))
    -- P2 format 1, slot 1, TPC 1, TFCI 01, data 10: 1101101100
    ∷ row 2 (slot_map 1 1 1 (0 ∷ 1 ∷ []) (1 ∷ 0 ∷ []) 10) (leaving (digits (1 ∷ 1 ∷ 0 ∷ 1 ∷ 1 ∷ 0 ∷ 1 ∷ 1 ∷ 0 ∷ 0 ∷ [])))
    -- P3 format 17: 1
    ∷ row 3 (slot_map 17 slot tpc tfci d lent) (refusing 1 0)
    -- P4 slot 15, format 0: 2
    ∷ row 4 (slot_map 0 15 tpc tfci d lent) (refusing 2 0)
    -- P5 STTD 0001: 1101
    ∷ row 5 (sttd_digits (0 ∷ 0 ∷ 0 ∷ 1 ∷ []) 4) (leaving (digits (1 ∷ 1 ∷ 0 ∷ 1 ∷ [])))
    -- P6 STTD 1202: 1212
    ∷ row 6 (sttd_digits (1 ∷ 2 ∷ 0 ∷ 2 ∷ []) 4) (leaving (digits (1 ∷ 2 ∷ 1 ∷ 2 ∷ [])))
    -- P7 Np 18, SFN 1, PI 5: q 7
    ∷ row 7 (pich_q 18 1 5) (leaving (q 7))
    -- P8 Np 36, SFN 4095, PI 35: q 17
    ∷ row 8 (pich_q 36 4095 35) (leaving (q 17))
    -- P9 all indicators +1: 16 16, then thirty 0
    ∷ row 9 (aich_map (replicate 16 (pos 1)) 32) (leaving (values (pos 16 ∷ pos 16 ∷ replicate 30 (pos 0))))
    -- P10 indicators +1 on 0, -1 on 1: 0 0 2 2 eight times
    ∷ row 10 (aich_map (pos 1 ∷ minus 1 ∷ replicate 14 (pos 0)) 32) (leaving (values (joined (replicate 8 (pos 0 ∷ pos 0 ∷ pos 2 ∷ pos 2 ∷ [])))))
    -- P11 thirty-two 2s read: 10
    ∷ row 11 (aich_read (replicate 32 (pos 2)) 16) (refusing 10 0)
    -- P12 gains 3+4i and 0, indicator -1 on 5 only, clean: -800 for 5, 0 elsewhere
    ∷ row 12 (combine_clean (cx (pos 3) (pos 4)) (cx (pos 0) (pos 0)) (only5 (minus 1)) 16) (leaving (values (only5 (minus 800))))
    ∷ []

-- the twelve examples, and what the definitions give is what the page says, row by row
pub record Examples (rows : List Row) : Type 0 where
  pub all_twelve : map (λ (r : Row). r.number) rows ≡ 1 ∷ 2 ∷ 3 ∷ 4 ∷ 5 ∷ 6 ∷ 7 ∷ 8 ∷ 9 ∷ 10 ∷ 11 ∷ 12 ∷ []
  pub as_said : map (λ (r : Row). r.given) rows ≡ map (λ (r : Row). r.said) rows

abbrev pub MarkedExamples : Type 0
MarkedExamples = (slot tpc : ℕ) (tfci d : List ℕ) (lent : ℕ) → Examples (table slot tpc tfci d lent)
