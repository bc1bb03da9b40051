-- `lines::indicators_of` meets its contract: each turn stores one indicator more.
use borrow.Author.Rules.{rules}
use mir.Val.{to_z, of_z}
use mir.Syntax.{w32}
use mathlib.Core.Path.{◌≡◌}
use mathlib.Core.Path.{sym, ◌∙◌}
use native.Mathlib.Omega.{arith}
use lib.IntN.{pos}
use Rattle.run.proofs.Front.{front_none, front_length, front_store, front_all}
use Rattle.lines.proofs.Records.{indicators_length, indicators_at}
use Rattle.lines.proofs.indicators_of.Goals as goal

pub loop-s-init : goal.loop-s-init
loop-s-init c = front_none (indicators_length _)

pub bounds-r-s : goal.bounds-r-s
bounds-r-s c = omega (arith, c.requires)

pub loop-s-preserved : goal.loop-s-preserved
loop-s-preserved c =
    let f = c.loop-s.invariant in
    let l = front_length f in
    let kept : to_z w32 (of_z w32 c.indicator_of.result) ≡ c.indicator_of.result = search rules in
    front_store (pos 0) f (omega (arith, l)) (kept ∙ c.indicator_of.ensures ∙ sym (indicators_at _ _ c.loop-s-test.true))

pub returns : goal.returns
returns c = front_all c.loop-s.invariant (omega arith)
