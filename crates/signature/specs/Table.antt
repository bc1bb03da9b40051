-- Table 20 of the early draft of TS 25.211 (5.3.3.6 there), as printed, and its rule (docs/RULES.md, 'AICH'). The statement is proved in proofs/Table.antt under its name in small letters.
-- Assumes nothing.
use Rattle.std.specs.Prelude.{ℕ, ◌≡◌, List, [], ◌∷◌, ℤ, pos, negsuc}
use Rattle.run.specs.Table.{tab}
use Rattle.signature.specs.Rule.{sign}

-- +1 and -1
abbrev pub p : ℤ
p = pos 1

abbrev pub m : ℤ
m = negsuc 0

-- row s is signature s, b(s, 0) .. b(s, 31)
unfoldable pub table20 : List (List ℤ)
table20 =
    (p ∷ p ∷ p ∷ p ∷ p ∷ p ∷ p ∷ p ∷ p ∷ p ∷ p ∷ p ∷ p ∷ p ∷ p ∷ p ∷ p ∷ p ∷ p ∷ p ∷ p ∷ p ∷ p ∷ p ∷ p ∷ p ∷ p ∷ p ∷ p ∷ p ∷ p ∷ p ∷ [])
    ∷ (p ∷ p ∷ m ∷ m ∷ p ∷ p ∷ m ∷ m ∷ p ∷ p ∷ m ∷ m ∷ p ∷ p ∷ m ∷ m ∷ p ∷ p ∷ m ∷ m ∷ p ∷ p ∷ m ∷ m ∷ p ∷ p ∷ m ∷ m ∷ p ∷ p ∷ m ∷ m ∷ [])
    ∷ (p ∷ p ∷ p ∷ p ∷ m ∷ m ∷ m ∷ m ∷ p ∷ p ∷ p ∷ p ∷ m ∷ m ∷ m ∷ m ∷ p ∷ p ∷ p ∷ p ∷ m ∷ m ∷ m ∷ m ∷ p ∷ p ∷ p ∷ p ∷ m ∷ m ∷ m ∷ m ∷ [])
    ∷ (p ∷ p ∷ m ∷ m ∷ m ∷ m ∷ p ∷ p ∷ p ∷ p ∷ m ∷ m ∷ m ∷ m ∷ p ∷ p ∷ p ∷ p ∷ m ∷ m ∷ m ∷ m ∷ p ∷ p ∷ p ∷ p ∷ m ∷ m ∷ m ∷ m ∷ p ∷ p ∷ [])
    ∷ (p ∷ p ∷ p ∷ p ∷ p ∷ p ∷ p ∷ p ∷ m ∷ m ∷ m ∷ m ∷ m ∷ m ∷ m ∷ m ∷ p ∷ p ∷ p ∷ p ∷ p ∷ p ∷ p ∷ p ∷ m ∷ m ∷ m ∷ m ∷ m ∷ m ∷ m ∷ m ∷ [])
    ∷ (p ∷ p ∷ m ∷ m ∷ p ∷ p ∷ m ∷ m ∷ m ∷ m ∷ p ∷ p ∷ m ∷ m ∷ p ∷ p ∷ p ∷ p ∷ m ∷ m ∷ p ∷ p ∷ m ∷ m ∷ m ∷ m ∷ p ∷ p ∷ m ∷ m ∷ p ∷ p ∷ [])
    ∷ (p ∷ p ∷ p ∷ p ∷ m ∷ m ∷ m ∷ m ∷ m ∷ m ∷ m ∷ m ∷ p ∷ p ∷ p ∷ p ∷ p ∷ p ∷ p ∷ p ∷ m ∷ m ∷ m ∷ m ∷ m ∷ m ∷ m ∷ m ∷ p ∷ p ∷ p ∷ p ∷ [])
    ∷ (p ∷ p ∷ m ∷ m ∷ m ∷ m ∷ p ∷ p ∷ m ∷ m ∷ p ∷ p ∷ p ∷ p ∷ m ∷ m ∷ p ∷ p ∷ m ∷ m ∷ m ∷ m ∷ p ∷ p ∷ m ∷ m ∷ p ∷ p ∷ p ∷ p ∷ m ∷ m ∷ [])
    ∷ (p ∷ p ∷ p ∷ p ∷ p ∷ p ∷ p ∷ p ∷ p ∷ p ∷ p ∷ p ∷ p ∷ p ∷ p ∷ p ∷ m ∷ m ∷ m ∷ m ∷ m ∷ m ∷ m ∷ m ∷ m ∷ m ∷ m ∷ m ∷ m ∷ m ∷ m ∷ m ∷ [])
    ∷ (p ∷ p ∷ m ∷ m ∷ p ∷ p ∷ m ∷ m ∷ p ∷ p ∷ m ∷ m ∷ p ∷ p ∷ m ∷ m ∷ m ∷ m ∷ p ∷ p ∷ m ∷ m ∷ p ∷ p ∷ m ∷ m ∷ p ∷ p ∷ m ∷ m ∷ p ∷ p ∷ [])
    ∷ (p ∷ p ∷ p ∷ p ∷ m ∷ m ∷ m ∷ m ∷ p ∷ p ∷ p ∷ p ∷ m ∷ m ∷ m ∷ m ∷ m ∷ m ∷ m ∷ m ∷ p ∷ p ∷ p ∷ p ∷ m ∷ m ∷ m ∷ m ∷ p ∷ p ∷ p ∷ p ∷ [])
    ∷ (p ∷ p ∷ m ∷ m ∷ m ∷ m ∷ p ∷ p ∷ p ∷ p ∷ m ∷ m ∷ m ∷ m ∷ p ∷ p ∷ m ∷ m ∷ p ∷ p ∷ p ∷ p ∷ m ∷ m ∷ m ∷ m ∷ p ∷ p ∷ p ∷ p ∷ m ∷ m ∷ [])
    ∷ (p ∷ p ∷ p ∷ p ∷ p ∷ p ∷ p ∷ p ∷ m ∷ m ∷ m ∷ m ∷ m ∷ m ∷ m ∷ m ∷ m ∷ m ∷ m ∷ m ∷ m ∷ m ∷ m ∷ m ∷ p ∷ p ∷ p ∷ p ∷ p ∷ p ∷ p ∷ p ∷ [])
    ∷ (p ∷ p ∷ m ∷ m ∷ p ∷ p ∷ m ∷ m ∷ m ∷ m ∷ p ∷ p ∷ m ∷ m ∷ p ∷ p ∷ m ∷ m ∷ p ∷ p ∷ m ∷ m ∷ p ∷ p ∷ p ∷ p ∷ m ∷ m ∷ p ∷ p ∷ m ∷ m ∷ [])
    ∷ (p ∷ p ∷ p ∷ p ∷ m ∷ m ∷ m ∷ m ∷ m ∷ m ∷ m ∷ m ∷ p ∷ p ∷ p ∷ p ∷ m ∷ m ∷ m ∷ m ∷ p ∷ p ∷ p ∷ p ∷ p ∷ p ∷ p ∷ p ∷ m ∷ m ∷ m ∷ m ∷ [])
    ∷ (p ∷ p ∷ m ∷ m ∷ m ∷ m ∷ p ∷ p ∷ m ∷ m ∷ p ∷ p ∷ p ∷ p ∷ m ∷ m ∷ m ∷ m ∷ p ∷ p ∷ p ∷ p ∷ m ∷ m ∷ p ∷ p ∷ m ∷ m ∷ m ∷ m ∷ p ∷ p ∷ [])
    ∷ []

-- the table has sixteen rows and 32 columns, and each entry is what the rule says
abbrev pub TableRule : Type 0
TableRule = table20 ≡ tab 16 (λ (s : ℕ). tab 32 (λ (j : ℕ). sign s j))
