-- `slt_bank::slt_bank_store` meets its contract: the call's own answer, packed, which fits the fields.
use lib.Dec.{lit<}
use Rattle.bank.proofs.Exact.{packs}
use Rattle.packed.proofs.Exact.{fitted}
use Rattle.slt_bank.proofs.slt_bank_store.Goals as goal

pub returns : goal.returns
returns c =
    let m = c.store.ensures in
    record { answer_is = fitted 0 c.done.ensures m.verdict_is (packs.store_narrow _ _ _) (lit< tt); bank_is = m.bank_is }
