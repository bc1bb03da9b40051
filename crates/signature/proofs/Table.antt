-- The theorem of specs/Table.antt: antt computes the rule at all 512 entries and compares.
-- Assumes nothing.
use mathlib.Core.Path.{◌≡◌, refl, ap, ◌∙◌}
use mathlib.Core.List.{List, []}
use Prim.Native.Nat.{ℕ, ◌<◌}
use lib.Count.{ones}
use lib.IntN.{ℤ, pos}
use lib.ListN.{get_or}
use Rattle.run.specs.Table.{tab}
use Rattle.run.proofs.Table.{tab_at}
use Rattle.signature.specs.Rule.{is_plus, sign}
use Rattle.signature.specs.Table.{table20, TableRule}

pub table_rule : TableRule
unfolding table20 tab sign is_plus ones
table_rule = refl

-- entry by entry
pub table_at : (s j : ℕ) → s < 16 → j < 32 → get_or (get_or table20 s []) j (pos 0) ≡ sign s j
table_at s j h l =
    ap (λ (t : List (List ℤ)). get_or (get_or t s []) j (pos 0)) table_rule
    ∙ ap (λ (row : List ℤ). get_or row j (pos 0)) (tab_at 16 (λ (t : ℕ). tab 32 (λ (k : ℕ). sign t k)) s [] h)
    ∙ tab_at 32 (λ (k : ℕ). sign s k) j (pos 0) l
