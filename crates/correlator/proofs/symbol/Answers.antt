-- `correlator::symbol` meets its contract: what fits 32 bits is read back as it was.
use mathlib.Core.Path.{◌≡◌, ap, ◌∙◌}
use mathlib.Core.List.{List}
use Prim.Native.Nat.{ℕ, ◌+◌, ◌*◌, ◌<◌, ◌^◌}
use lib.ListN.{get_or}
use lib.IntN.{ℤ, pos}
use lib.Signed.{mag}
use mir.Syntax.{w32, w64}
use mir.Val.{to_z, of_z, hbits}
use mir.Facts.{to_z-of_z, sfits_widen}
use borrow.Author.Rules.{rules}
use Rattle.correlator.proofs.symbol.Goals as goal

-- part j, read from its bits and widened
widened : (s : List ℤ) (j : ℕ) (r : ℤ) → mag (get_or s j (pos 0)) < 2 ^ hbits w32 → r ≡ to_z w32 (of_z w32 (get_or s j (pos 0)))
    → to_z w64 (of_z w64 r) ≡ get_or s j (pos 0)
widened s j r h e =
    let is : r ≡ get_or s j (pos 0) = e ∙ to_z-of_z {w = w32} (record { sfits = h }) in
    ap (λ (z : ℤ). to_z w64 (of_z w64 z)) is ∙ to_z-of_z {w = w64} (sfits_widen {w = w32} tt (record { sfits = h }))

pub returns : goal.returns
returns c =
    let start = c in
    let parts = start.args.s.now in
    let k = start.args.k in
    let re-is = widened parts (2 * k) _ (search rules) c.from.ensures in
    let im-is = widened parts (2 * k + 1) _ (search rules) c.from-2.ensures in
    λ i. record { re = re-is i; im = im-is i }
