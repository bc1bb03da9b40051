-- `desk_serve::marks` meets its contract: each turn stores the indicator of one signature more.
use mathlib.Core.Path.{sym, ◌∙◌}
use native.Mathlib.Omega.{arith}
use mir.Syntax.{w32}
use mir.Facts.{to_z-of_z}
use lib.IntN.{pos}
use Rattle.run.proofs.Front.{front_none, front_length, front_store, front_all}
use Rattle.run.proofs.Table.{tab_length, tab_at}
use Rattle.desk.specs.Method.{marks_of}
use Rattle.desk_serve.proofs.marks.Goals as goal

pub loop-s-init : goal.loop-s-init
unfolding marks_of
loop-s-init c = (omega arith, front_none (tab_length 16 _))

pub mark-requires : goal.mark-requires
mark-requires c = (c.requires, c.loop-s-test.true)

pub loop-s-preserved : goal.loop-s-preserved
unfolding marks_of
loop-s-preserved c =
    let head = c in
    let f = head.loop-s.invariant.1 in
    let l = front_length f in (
      omega arith,
      front_store (pos 0) f (omega arith) (to_z-of_z {w = w32} (record { sfits = c.mark.type_inv }) ∙ c.mark.ensures ∙ sym (tab_at 16 _ head.loop-s.s (pos 0) c.loop-s-test.true)),
    )

pub returns : goal.returns
returns c = front_all c.loop-s.invariant.1 (omega arith)
