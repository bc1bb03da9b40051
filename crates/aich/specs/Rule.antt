-- docs/RULES.md, 'AICH'; TS 25.211, 5.3.3.7: the values that indicators give, the indicators of values, and what a set of available signatures allows.
-- Assumes nothing.
use Rattle.std.specs.Prelude.{ℕ, ◌/◌, ◌%◌, ◌^◌, Bool, cond, ◌||◌, List, eqb, get_or, ℤ, pos, negsuc, neg_ℤ, ◌*ℤ◌}
use Rattle.run.specs.Table.{tab}
use Rattle.whole.specs.Sum.{sum}
use Rattle.whole.specs.Equal.{eq_z}
use Rattle.signature.specs.Rule.{sign}

-- a(j) = sum over s of indicator(s)·b(s, j)
unfoldable pub value_at : List ℤ → ℕ → ℤ
value_at indicators j = sum 16 (λ (s : ℕ). get_or indicators s (pos 0) *ℤ sign s j)

-- the values of indicators: j = 0 to 31
unfoldable pub values_of : List ℤ → List ℤ
values_of indicators = tab 32 (value_at indicators)

-- the correlation of values with signature s
unfoldable pub correlation : List ℤ → ℕ → ℤ
correlation values s = sum 32 (λ (j : ℕ). get_or values j (pos 0) *ℤ sign s j)

-- +1 for n, -1 for -n, 0 for any other number
unfoldable pub unit : ℕ → ℤ → ℤ
unit n z = cond (eq_z z (pos n)) (pos 1) (cond (eq_z z (neg_ℤ (pos n))) (negsuc 0) (pos 0))

-- the indicators of values: the correlation of what indicators give is 32 times the signature's own
unfoldable pub indicators_in : List ℤ → List ℤ
indicators_in values = tab 16 (λ (s : ℕ). unit 32 (correlation values s))

-- a set of signatures is a number of 16 bits: signature s is available where bit s is 1
unfoldable pub offers : ℕ → ℕ → Bool
offers available s = eqb (available / 2 ^ s % 2) 1

-- the indicator of a signature that is not available is 0
unfoldable pub allows : ℕ → List ℤ → ℕ → Bool
allows available indicators s = offers available s || eq_z (get_or indicators s (pos 0)) (pos 0)
