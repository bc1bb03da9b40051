-- `slot_tfci::all_of_kind` meets its contract: a pass over the places at the test `kind_at silent`.
use Rattle.run.proofs.Passing.{pass_start, pass_good, pass_bad, pass_end}
use Rattle.slot_tfci.proofs.Laws.{fails, holds}
use Rattle.slot_tfci.proofs.all_of_kind.Goals as goal
use Rattle.slot_tfci.proofs.all_of_kind.Goals.{then-s-k, else-s-k}

pub loop-k-init : goal.loop-k-init
loop-k-init c = pass_start

pub loop-k-preserved : goal.loop-k-preserved
loop-k-preserved c =
    let test = c.loop-k-test.true in
    let inv = c.loop-k.invariant in
    elim c.if-s-k.branch [ then-s-k w ↦ rw w.good-is (pass_bad inv test (fails _ w.if-s-k.true)) | else-s-k w ↦ rw w.good-is (pass_good inv test (holds _ w.if-s-k.false)) ]

pub returns : goal.returns
returns c = pass_end c.loop-k.invariant c.loop-k-test.false
