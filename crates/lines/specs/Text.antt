-- What is printed: numbers in decimal, digits of a channel, and a text put into a line.
-- Assumes nothing.
use Rattle.std.specs.Prelude.{ℕ, zero, suc, ◌+◌, ◌/◌, ◌%◌, cond, ◌≡◌, List, [], ◌∷◌, ◌++◌, ltb, ℤ, pos, nat_abs, length, get_or, take, drop}
use Rattle.std.specs.Int.Signed.{lt_z}
use Rattle.run.specs.Table.{tab}

-- ASCII: ' ', '-', '0', '1' and the end of a line
abbrev pub space : ℕ
space = 32

abbrev pub minus : ℕ
minus = 45

abbrev pub nought : ℕ
nought = 48

abbrev pub newline : ℕ
newline = 10

-- n in decimal, by at most `fuel` divisions by ten
unfoldable pub decimal_by : ℕ → ℕ → List ℕ
decimal_by zero n = (nought + n % 10) ∷ []
decimal_by (suc fuel) n = cond (ltb n 10) ((nought + n % 10) ∷ []) (decimal_by fuel (n / 10) ++ ((nought + n % 10) ∷ []))

-- n in decimal: n divisions are always enough (`decimal_reads` gives the number back)
unfoldable pub decimal : ℕ → List ℕ
decimal n = decimal_by n n

-- a number and the byte behind it
abbrev pub number : ℕ → ℕ → List ℕ
number n behind = decimal n ++ (behind ∷ [])

-- a whole number in decimal: '-' where it is negative, and its size
unfoldable pub signed : ℤ → List ℕ
signed z = cond (lt_z z (pos 0)) (minus ∷ []) [] ++ decimal (nat_abs z)

-- whole numbers, each with a space before it
unfoldable pub spaced : List ℤ → List ℕ
spaced [] = []
spaced (v ∷ vs) = (space ∷ signed v) ++ spaced vs

-- a channel digit: 0, 1, or - for DTX
unfoldable pub glyph : ℕ → ℕ
glyph d = cond (ltb d 2) (nought + d) minus

unfoldable pub glyphs : List ℕ → List ℕ
glyphs s = tab (length s) (λ (k : ℕ). glyph (get_or s k 0))

-- .. and the end of the line
abbrev pub row : List ℕ → List ℕ
row s = glyphs s ++ (newline ∷ [])

-- the line with a text put at a place
unfoldable pub put : ℕ → List ℕ → List ℕ → List ℕ
put place text line = take place line ++ (text ++ drop (place + length text) line)

-- a text was put at a place: where it ends, and the line afterwards
pub record Wrote (place : ℕ) (text line : List ℕ) (end : ℕ) (line_after : List ℕ) : Type 0 where
  pub ends : end ≡ place + length text
  pub is : line_after ≡ put place text line
