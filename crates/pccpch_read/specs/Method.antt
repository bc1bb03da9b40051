-- What the private functions of the reader promise. Nothing here is part of a public promise.
-- Assumes nothing.
use Rattle.std.specs.Prelude.{ℕ, ◌+◌, ◌*◌, Bool, ◌&&◌, List, eqb, leb, length, get_or}
use Rattle.run.specs.Digits.{dtx}
use Rattle.run.specs.First.{all, at_most, agree}
use Rattle.pccpch.specs.Rule.{second_of}

-- slot s begins with two digits of DTX
abbrev pub begins_at : List ℕ → ℕ → Bool
begins_at frame s = eqb (get_or frame (20 * s) 0) dtx && eqb (get_or frame (20 * s + 1) 0) dtx

-- each slot does, the data are bits, and antenna 2's frame is what they give
abbrev pub given : List ℕ → List ℕ → List ℕ → Bool
given antenna1 antenna2 digits =
    (all 15 (begins_at antenna1) && (leb 270 (length digits) && all 270 (at_most 1 digits)))
    && (leb 300 (length (second_of digits)) && (leb 300 (length antenna2) && all 300 (agree (second_of digits) antenna2)))
