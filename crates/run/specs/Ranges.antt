-- Ranges of whole numbers, and the places of a run at which a number of the range stands.
-- Assumes nothing.
use Rattle.std.specs.Prelude.{ℕ, Bool, ◌&&◌, List, get_or, ℤ, pos}
use Rattle.std.specs.Int.Signed.{le_z}

-- z lies in low to high
unfoldable pub between : ℤ → ℤ → ℤ → Bool
between low high z = le_z low z && le_z z high

-- the number at place k does
abbrev pub in_range : ℤ → ℤ → List ℤ → ℕ → Bool
in_range low high s k = between low high (get_or s k (pos 0))
