-- docs/RULES.md, 'AICH': what the call answers, for all inputs.
-- Assumes nothing.
use Rattle.std.specs.Prelude.{ℕ, cond, ◌&&◌, ltb, ℤ, pos}
use Rattle.signature.specs.Rule.{sign}

-- sign: table 20 of the early draft has rows 0 to 15 and columns 0 to 31; outside it the answer is 0
unfoldable pub sign_at : ℕ → ℕ → ℤ
sign_at s j = cond (ltb s 16 && ltb j 32) (sign s j) (pos 0)
