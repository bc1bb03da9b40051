-- `slt_sttd::slt_sttd_values` meets its contract: the encoder's own answer, packed, which fits the fields.
use lib.Dec.{lit<}
use Rattle.sttd.proofs.Exact.{packs}
use Rattle.packed.proofs.Exact.{fitted}
use Rattle.slt_sttd.proofs.slt_sttd_values.Goals as goal

pub returns : goal.returns
returns c =
    let m = c.values.ensures in
    record { answer_is = fitted 0 c.done.ensures m.verdict_is (packs.values_narrow _ _) (lit< tt); out_is = m.out_is }
