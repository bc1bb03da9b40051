-- `slt_bank::slt_bank_fetch` meets its contract: the call's own answer, packed, which fits the fields.
use lib.Dec.{lit<}
use Rattle.bank.proofs.Exact.{packs}
use Rattle.packed.proofs.Exact.{fitted}
use Rattle.slt_bank.proofs.slt_bank_fetch.Goals as goal

pub returns : goal.returns
returns c =
    let m = c.fetch.ensures in
    record { answer_is = fitted 0 c.done.ensures m.verdict_is (packs.fetch_narrow _ _ _) (lit< tt); out_is = m.out_is }
