-- docs/RULES.md, 'Digits': a digit is 0, 1, or 2 for DTX.
-- Assumes nothing.
use Rattle.std.specs.Prelude.{ℕ}

abbrev pub dtx : ℕ
dtx = 2
