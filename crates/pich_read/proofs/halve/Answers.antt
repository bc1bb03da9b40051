-- `pich_read::halve` meets its contract: each turn stores the digit of one pair more.
use mathlib.Core.Path.{◌≡◌, sym, ◌∙◌}
use mathlib.Core.Bool.{true, false≢true}
use Prim.Native.Nat.{◌%◌}
use native.Mathlib.Omega.{arith}
use Rattle.pich_read.proofs.Laws.{halved_none, halved_more}
use Rattle.pich_read.proofs.halve.Goals as goal
use Rattle.pich_read.proofs.halve.Goals.{then-left-ne0, else-left-ne0}

pub loop-i-init : goal.loop-i-init
loop-i-init c = halved_none _ _

pub loop-i-preserved : goal.loop-i-preserved
loop-i-preserved c =
    let kept : c.if-left-ne0.good ≡ true → (c.loop-i.good ≡ true) × (c.left_of-left.result % 257 ≡ 0) =
    elim c.if-left-ne0.branch [ then-left-ne0 w ↦ λ e. absurd (false≢true (sym w.good-is ∙ e)) | else-left-ne0 w ↦ λ e. (sym w.good-is ∙ e, w.if-left-ne0.false) ]
    in
    halved_more c.loop-i.invariant (omega (arith, c.loop-i.invariant.sized))
    (λ e.
    let p = kept e in
    let pair = c.left_of-left.ensures p.1 in
    (p.0, pair.0 ∙ sym c.digit_of.ensures, pair.1 ∙ sym c.digit_of.ensures))

pub returns : goal.returns
returns c = λ e k h. c.loop-i.invariant.so_far e k (omega (arith, c.loop-i.invariant.sized))
