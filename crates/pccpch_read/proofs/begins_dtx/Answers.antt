-- `pccpch_read::begins_dtx` meets its contract: a pass over the slots.
use mathlib.Core.Path.{sym, ◌∙◌}
use Rattle.run.proofs.Passing.{pass_start, pass_good, pass_bad, pass_end}
use Rattle.pccpch_read.proofs.begins_dtx.Goals as goal
use Rattle.pccpch_read.proofs.begins_dtx.Goals.{then-not-both_dtx, else-not-both_dtx}

pub loop-slot-init : goal.loop-slot-init
loop-slot-init c = pass_start

pub loop-slot-preserved : goal.loop-slot-preserved
loop-slot-preserved c =
    let inv = c.loop-slot.invariant in
    let test = c.loop-slot-test.true in
    let e = c.both_dtx.ensures in
    elim c.if-not-both_dtx.branch [ then-not-both_dtx w ↦ rw w.good-is (pass_bad inv test (sym e ∙ w.if-not-both_dtx.true)) | else-not-both_dtx w ↦ rw w.good-is (pass_good inv test (sym e ∙ w.if-not-both_dtx.false)) ]

pub returns : goal.returns
returns c = pass_end c.loop-slot.invariant c.loop-slot-test.false
