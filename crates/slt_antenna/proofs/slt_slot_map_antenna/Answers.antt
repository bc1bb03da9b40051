-- `slt_antenna::slt_slot_map_antenna` meets its contract: the mapper's own answer, packed, which fits the fields.
use lib.Dec.{lit<}
use Rattle.antenna.proofs.Exact.{packs}
use Rattle.packed.proofs.Exact.{fitted}
use Rattle.slt_antenna.proofs.slt_slot_map_antenna.Goals as goal

pub returns : goal.returns
returns c =
    let m = c.map.ensures in
    record { answer_is = fitted 0 c.done.ensures m.verdict_is (packs.map_narrow _ _ _ _ _ _ _) (lit< tt); out_is = m.out_is }
