-- `slt_wake::slt_wake_step` meets its contract: the frame's own answer, packed, which fits the fields.
use lib.Dec.{lit<}
use Rattle.wake.proofs.Exact.{packs}
use Rattle.packed.proofs.Exact.{fitted}
use Rattle.slt_wake.proofs.slt_wake_step.Goals as goal

pub returns : goal.returns
returns c =
    let one = c.frame.ensures in
    record { answer_is = fitted 0 c.done.ensures one.verdict_is (packs.frame_narrow _ _ _ _) (lit< tt); tally_is = one.tally_is }
