-- `slt_pccpch::slt_pccpch_map` meets its contract: the mapper's own answer, packed, which fits the fields.
use lib.Dec.{lit<}
use Rattle.pccpch.proofs.Exact.{packs}
use Rattle.packed.proofs.Exact.{fitted}
use Rattle.slt_pccpch.proofs.slt_pccpch_map.Goals as goal

pub returns : goal.returns
returns c =
    let m = c.map.ensures in
    record { answer_is = fitted 0 c.done.ensures m.verdict_is (packs.map_narrow _ _ _) (lit< tt); antenna1_is = m.antenna1_is; antenna2_is = m.antenna2_is }
