-- `slt_aich::slt_aich_map` meets its contract: the mapper's own answer, packed, which fits the fields.
use lib.Dec.{lit<}
use Rattle.aich.proofs.Exact.{packs}
use Rattle.packed.proofs.Exact.{fitted}
use Rattle.slt_aich.proofs.slt_aich_map.Goals as goal

pub returns : goal.returns
returns c =
    let m = c.map.ensures in
    record { answer_is = fitted 0 c.done.ensures m.verdict_is (packs.map_narrow _ _) (lit< tt); values_is = m.values_is }
