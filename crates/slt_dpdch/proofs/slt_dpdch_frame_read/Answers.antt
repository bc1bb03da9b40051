-- `slt_dpdch::slt_dpdch_frame_read` meets its contract: the reader's own answer, packed, which fits the fields.
use lib.Dec.{lit<}
use Rattle.dpdch.proofs.Exact.{packs}
use Rattle.packed.proofs.Exact.{fitted}
use Rattle.slt_dpdch.proofs.slt_dpdch_frame_read.Goals as goal

pub returns : goal.returns
returns c =
    let m = c.frame_read.ensures in
    record { answer_is = fitted 0 c.done.ensures m.verdict_is (packs.frame_read_narrow _ _ _) (lit< tt); data_is = m.data_is }
