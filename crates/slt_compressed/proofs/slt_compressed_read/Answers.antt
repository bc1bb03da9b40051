-- `slt_compressed::slt_compressed_read` meets its contract: the reader's own answer, packed, which fits the fields.
use lib.Dec.{lit<}
use Rattle.compressed.proofs.Exact.{packs}
use Rattle.packed.proofs.Exact.{fitted}
use Rattle.slt_compressed.proofs.slt_compressed_read.Goals as goal

pub returns : goal.returns
returns c =
    let m = c.read.ensures in
    record { answer_is = fitted 0 c.done.ensures m.verdict_is (packs.read_narrow _ _ _ _ _ _ _ _) (lit< tt); data_is = m.data_is; tfci_is = m.tfci_is; commands_is = m.commands_is }
