-- `slot_fits::all_are` meets its contract: a pass over the places at the test `is_at v`.
use borrow.Author.Tests.{eq-eqb, ne_eqb}
use Rattle.run.proofs.Passing.{pass_start, pass_good, pass_bad, pass_end}
use Rattle.slot_fits.proofs.all_are.Goals as goal
use Rattle.slot_fits.proofs.all_are.Goals.{then-s-k, else-s-k}

pub loop-k-init : goal.loop-k-init
loop-k-init c = pass_start

pub loop-k-preserved : goal.loop-k-preserved
loop-k-preserved c =
    let test = c.loop-k-test.true in
    let inv = c.loop-k.invariant in
    elim c.if-s-k.branch [ then-s-k w ↦ rw w.good-is (pass_bad inv test (ne_eqb _ _ w.if-s-k.true)) | else-s-k w ↦ rw w.good-is (pass_good inv test (eq-eqb _ _ w.if-s-k.false)) ]

pub returns : goal.returns
returns c = pass_end c.loop-k.invariant c.loop-k-test.false
