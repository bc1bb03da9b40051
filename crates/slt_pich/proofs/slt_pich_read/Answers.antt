-- `slt_pich::slt_pich_read` meets its contract: the reader's own answer, packed, which fits the fields.
use lib.Dec.{lit<}
use Rattle.pich.proofs.Exact.{packs}
use Rattle.packed.proofs.Exact.{fitted}
use Rattle.slt_pich.proofs.slt_pich_read.Goals as goal

pub returns : goal.returns
returns c =
    let m = c.read.ensures in
    record { answer_is = fitted 0 c.done.ensures m.verdict_is (packs.read_narrow _ _ _) (lit< tt); indicators_is = m.indicators_is }
