-- `range::all_lie` meets its contract: a pass over the numbers, with the range that the bits of the bounds stand for.
use mathlib.Core.Path.{◌≡◌, sym, ap, ◌∙◌}
use mathlib.Core.Bool.{Bool}
use mathlib.Core.List.{List}
use Prim.Native.Nat.{ℕ, ◌<◌, ◌^◌}
use lib.ListN.{get_or}
use lib.IntN.{ℤ, pos}
use lib.Signed.{mag}
use mir.Syntax.{w32}
use mir.Val.{to_z, of_z, hbits}
use mir.Facts.{to_z-of_z}
use Rattle.run.specs.Ranges.{between, in_range}
use Rattle.run.proofs.Passing.{pass_start, pass_good, pass_bad, pass_end}
use Rattle.range.proofs.all_lie.Goals as goal
use Rattle.range.proofs.all_lie.Goals.{then-not-lies, else-not-lies}

-- the answer of `lies` at place k, which read the number from its bits
told : (s : List ℤ) (low high : ℤ) (k : ℕ) {r b : Bool} → mag (get_or s k (pos 0)) < 2 ^ hbits w32
    → r ≡ between low high (to_z w32 (of_z w32 (get_or s k (pos 0)))) → r ≡ b → in_range low high s k ≡ b
told s low high k h e f = ap (between low high) (sym (to_z-of_z {w = w32} (record { sfits = h }))) ∙ sym e ∙ f

pub loop-x-init : goal.loop-x-init
loop-x-init c = pass_start

pub loop-x-preserved : goal.loop-x-preserved
loop-x-preserved c =
    let head = c in
    let test = c.loop-x-test.true in
    let s = head.args.s.now in
    let f = c.lies-arg-1.given in
    let e = c.lies.ensures in
    elim c.if-not-lies.branch [ then-not-lies w ↦ rw w.good-is (pass_bad head.loop-x.invariant test (told s _ _ head.loop-x.x-index f e w.if-not-lies.true)) | else-not-lies w ↦ rw w.good-is (pass_good head.loop-x.invariant test (told s _ _ head.loop-x.x-index f e w.if-not-lies.false)) ]

pub returns : goal.returns
returns c =
    let f = c.ranges in
    rw (← to_z-of_z {w = w32} f.low, ← to_z-of_z {w = w32} f.high) (pass_end c.loop-x.invariant c.loop-x-test.false)
