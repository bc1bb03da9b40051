-- `aich::all_fit` meets its contract: a pass over the sums.
use mathlib.Core.Path.{◌≡◌, sym, ap, ◌∙◌}
use mathlib.Core.Bool.{Bool}
use mathlib.Core.List.{List}
use Prim.Native.Nat.{ℕ, ◌<◌, ◌^◌}
use lib.ListN.{get_or}
use lib.IntN.{ℤ, pos}
use lib.Signed.{mag}
use mir.Syntax.{w32}
use mir.Val.{to_z, of_z, hbits}
use mir.Facts.{to_z-of_z}
use borrow.Author.Rules.{rules}
use Rattle.aich.specs.Method.{fits16, fits_at}
use Rattle.run.proofs.Passing.{pass_start, pass_good, pass_bad, pass_end}
use Rattle.aich.proofs.all_fit.Goals as goal
use Rattle.aich.proofs.all_fit.Goals.{then-not-fits, else-not-fits}

-- the answer of `fits` at place s, which read the number from its bits
told : (sums : List ℤ) (s : ℕ) {r b : Bool} → mag (get_or sums s (pos 0)) < 2 ^ hbits w32
    → r ≡ fits16 (to_z w32 (of_z w32 (get_or sums s (pos 0)))) → r ≡ b → fits_at sums s ≡ b
told sums s h e f = ap fits16 (sym (to_z-of_z {w = w32} (record { sfits = h }))) ∙ sym e ∙ f

pub loop-s-init : goal.loop-s-init
loop-s-init c = pass_start

pub loop-s-preserved : goal.loop-s-preserved
loop-s-preserved c =
    let test = c.loop-s-test.true in
    let sums = c.args.sums.now in
    let e = c.fits.ensures in
    elim c.if-not-fits.branch [
      | then-not-fits w ↦ rw w.good-is (pass_bad c.loop-s.invariant test (told sums c.loop-s.s (search rules) e w.if-not-fits.true))
      | else-not-fits w ↦ rw w.good-is (pass_good c.loop-s.invariant test (told sums c.loop-s.s (search rules) e w.if-not-fits.false))
    ]

pub returns : goal.returns
returns c = pass_end c.loop-s.invariant c.loop-s-test.false
