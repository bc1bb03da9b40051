-- What a private function of the mapper promises. Nothing here is part of a public promise.
-- Assumes nothing.
use Rattle.std.specs.Prelude.{ℕ, Bool, ◌&&◌, List, eqb, leb, length}
use Rattle.run.specs.First.{all, at_most}

-- the lengths are right, and the first 270 digits are 0 or 1
abbrev pub fitting : List ℕ → ℕ → ℕ → Bool
fitting digits length1 length2 =
    ((eqb (length digits) 270 && eqb length1 300) && eqb length2 300) && (leb 270 (length digits) && all 270 (at_most 1 digits))
