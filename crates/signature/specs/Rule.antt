-- docs/RULES.md, 'AICH'; TS 25.211, 5.3.3.7; table 20 of its early draft: the signatures.
-- Assumes nothing.
use Rattle.std.specs.Prelude.{ℕ, ◌/◌, ◌%◌, Bool, cond, eqb, ℤ, pos, negsuc}
use Rattle.std.specs.Int.Bits.{bit_and}
use Rattle.std.specs.Int.Count.{ones}

-- b(s, j) is +1 where s and floor(j/2) have an even number of one bits in common, else -1
unfoldable pub is_plus : ℕ → ℕ → Bool
is_plus s j = eqb (ones (bit_and s (j / 2)) % 2) 0

-- b(s, j)
unfoldable pub sign : ℕ → ℕ → ℤ
sign s j = cond (is_plus s j) (pos 1) (negsuc 0)
