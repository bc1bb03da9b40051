-- `signature::is_plus` meets its contract: the code's table is the printed one, of which the rule is a theorem. antt compares the two tables.
use mathlib.Core.Path.{◌≡◌, refl, ap, ◌∙◌}
use mathlib.Core.Bool.{Bool, true, false, cond}
use mathlib.Core.List.{List, [], map}
use Prim.Native.Nat.{ℕ, zero, suc, ◌<◌}
use lib.Dec.{eqb}
use lib.IntN.{ℤ, pos, negsuc}
use lib.ListN.{get_or, get_or-map}
use Rattle.signature.specs.Rule.{is_plus, sign}
use Rattle.signature.specs.Table.{table20}
use Rattle.signature.proofs.Table.{table_at}
use Rattle.signature.proofs.is_plus.Goals as goal

-- a sign as a byte: 43 is a plus, 45 a minus
abbrev byte_of : ℤ → ℕ
byte_of (pos zero) = 0
byte_of (pos (suc n)) = 43
byte_of (negsuc n) = 45

-- the printed table, as bytes
abbrev signatures : List (List ℕ)
signatures = map (map byte_of) table20

told : (b : Bool) → eqb (byte_of (cond b (pos 1) (negsuc 0))) 43 ≡ b
told true = refl
told false = refl

entry : (s j : ℕ) → s < 16 → j < 32 → eqb (get_or (get_or signatures s []) j 0) 43 ≡ is_plus s j
unfolding sign
entry s j h l =
    ap (λ (row : List ℕ). eqb (get_or row j 0) 43) (get_or-map (map byte_of) table20 s [])
    ∙ ap (λ (byte : ℕ). eqb byte 43) (get_or-map byte_of (get_or table20 s []) j (pos 0))
    ∙ ap (λ (z : ℤ). eqb (byte_of z) 43) (table_at s j h l)
    ∙ told (is_plus s j)

pub returns : goal.returns
unfolding table20
returns c = entry _ _ c.requires.0 c.requires.1
