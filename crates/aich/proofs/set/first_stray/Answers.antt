-- `aich::set::first_stray` meets its contract: a pass over the signatures from the highest on.
use mathlib.Core.Path.{◌≡◌, sym, ◌∙◌}
use mathlib.Core.Bool.{Bool, ◌||◌}
use mathlib.Core.List.{List}
use Prim.Native.Nat.{ℕ, ◌-◌, ◌<◌, ◌^◌}
use native.Mathlib.Omega.{arith}
use lib.ListN.{get_or}
use lib.IntN.{ℤ, pos}
use lib.Signed.{mag}
use mir.Syntax.{w32}
use mir.Val.{to_z, of_z, hbits}
use mir.Facts.{to_z-of_z}
use borrow.Author.Rules.{rules}
use Rattle.whole.specs.Equal.{eq_z}
use Rattle.run.proofs.Backward.{back_start, back_good, back_bad, back_end}
use Rattle.aich.specs.Rule.{offers, allows}
use Rattle.aich.proofs.set.first_stray.Goals as goal
use Rattle.aich.proofs.set.first_stray.Goals.{then-not-allowed, else-not-allowed}

-- the answer of `allowed` for signature s, which read the indicator from its bits
told : (available : ℕ) (x : List ℤ) (s : ℕ) {r b : Bool} → mag (get_or x s (pos 0)) < 2 ^ hbits w32
    → r ≡ (offers available s || eq_z (to_z w32 (of_z w32 (get_or x s (pos 0)))) (pos 0)) → r ≡ b → allows available x s ≡ b
unfolding allows
told available x s h e f =
    let seen : to_z w32 (of_z w32 (get_or x s (pos 0))) ≡ get_or x s (pos 0) = to_z-of_z {w = w32} (record { sfits = h }) in
    sym (rw seen at e) ∙ f

pub loop-i-init : goal.loop-i-init
loop-i-init c = back_start

pub loop-i-preserved : goal.loop-i-preserved
loop-i-preserved c =
    let x = c.args.indicators.now in
    let s = 15 - c.loop-i.i in
    let e = c.allowed.ensures in
    elim c.if-not-allowed.branch [
      | then-not-allowed w ↦ rw w.first-is (back_bad s c.loop-i.invariant (omega arith) (told _ x s (search rules) e w.if-not-allowed.true))
      | else-not-allowed w ↦ rw w.first-is (back_good s c.loop-i.invariant (omega arith) (told _ x s (search rules) e w.if-not-allowed.false))
    ]

pub returns : goal.returns
returns c = back_end c.loop-i.invariant c.loop-i-test.false
