-- `slt_dpcch::slt_dpcch_frame_read` meets its contract: the reader's own answer, packed, which fits the fields.
use lib.Dec.{lit<}
use Rattle.dpcch.proofs.Exact.{packs}
use Rattle.packed.proofs.Exact.{fitted}
use Rattle.slt_dpcch.proofs.slt_dpcch_frame_read.Goals as goal

pub returns : goal.returns
returns c =
    let m = c.read.ensures in
    record { answer_is = fitted 0 c.done.ensures m.verdict_is (packs.frame_read_narrow _ _ _ _ _) (lit< tt); tfci_is = m.tfci_is; fbi_is = m.fbi_is; commands_is = m.commands_is }
