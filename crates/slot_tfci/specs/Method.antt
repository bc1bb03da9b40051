-- How the code asks whether a TFCI field stands: what its private functions promise. Nothing here is part of a public promise.
-- Assumes nothing.
use Rattle.std.specs.Prelude.{ℕ, Bool, List, get_or, eqb}
use Rattle.std.specs.Bool.{beq}
use Rattle.run.specs.Digits.{dtx}

-- the digit at place k is DTX or not, as asked
abbrev pub kind_at : Bool → List ℕ → ℕ → Bool
kind_at silent s k = beq (eqb (get_or s k 0) dtx) silent
