-- `aich::all_alike` meets its contract: a pass over the pairs.
use mathlib.Core.Path.{◌≡◌, sym, ap₂, ◌∙◌}
use mathlib.Core.Bool.{Bool}
use mathlib.Core.List.{List}
use Prim.Native.Nat.{ℕ, ◌+◌, ◌*◌, ◌<◌, ◌^◌}
use lib.ListN.{get_or}
use lib.IntN.{ℤ, pos}
use lib.Signed.{mag}
use mir.Syntax.{w32}
use mir.Val.{to_z, of_z, hbits}
use mir.Facts.{to_z-of_z}
use borrow.Author.Rules.{rules}
use Rattle.aich.specs.Method.{is_pair, alike}
use Rattle.run.proofs.Passing.{pass_start, pass_good, pass_bad, pass_end}
use Rattle.aich.proofs.all_alike.Goals as goal
use Rattle.aich.proofs.all_alike.Goals.{then-not-is_pair, else-not-is_pair}

-- the answer of `is_pair` at pair k, which read the numbers from their bits
told : (values : List ℤ) (k : ℕ) {r b : Bool} → mag (get_or values (2 * k) (pos 0)) < 2 ^ hbits w32 → mag (get_or values (2 * k + 1) (pos 0)) < 2 ^ hbits w32
    → r ≡ is_pair (to_z w32 (of_z w32 (get_or values (2 * k) (pos 0)))) (to_z w32 (of_z w32 (get_or values (2 * k + 1) (pos 0)))) → r ≡ b → alike values k ≡ b
told values k g h e f =
    sym (e ∙ ap₂ is_pair (to_z-of_z {w = w32} (record { sfits = g })) (to_z-of_z {w = w32} (record { sfits = h }))) ∙ f

pub loop-k-init : goal.loop-k-init
loop-k-init c = pass_start

pub loop-k-preserved : goal.loop-k-preserved
loop-k-preserved c =
    let test = c.loop-k-test.true in
    let values = c.args.values.now in
    let e = c.is_pair.ensures in
    elim c.if-not-is_pair.branch [
      | then-not-is_pair w ↦ rw w.good-is (pass_bad c.loop-k.invariant test (told values c.loop-k.k (search rules) (search rules) e w.if-not-is_pair.true))
      | else-not-is_pair w ↦ rw w.good-is (pass_good c.loop-k.invariant test (told values c.loop-k.k (search rules) (search rules) e w.if-not-is_pair.false))
    ]

pub returns : goal.returns
returns c = pass_end c.loop-k.invariant c.loop-k-test.false
