-- `slt_desk::slt_desk_serve` meets its contract: the desk's own refusal, packed, which fits the fields. The desk is as it was.
use lib.Dec.{lit<}
use Rattle.desk.proofs.Exact.{packs}
use Rattle.packed.proofs.Exact.{fitted}
use Rattle.slt_desk.proofs.slt_desk_serve.Goals as goal

pub returns-in-Err : goal.returns-in-Err
returns-in-Err c =
    let s = rw c.in-Err.is at c.serve.ensures in
    record { answer_is = fitted 0 c.done-in-Err.ensures s.verdict_is (packs.serve_narrow _ _ _) (lit< tt); last_is = s.desk_is; values_is = s.values_is }
