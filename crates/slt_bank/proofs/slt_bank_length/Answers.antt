-- `slt_bank::slt_bank_length` meets its contract: the call's own answer, packed, which fits the fields.
use mathlib.Core.Path.{ap, ◌∙◌}
use Rattle.bank.proofs.Exact.{packs}
use Rattle.packed.specs.Outcome.{packed_cut}
use Rattle.packed.proofs.Exact.{fitted}
use Rattle.slt_bank.proofs.slt_bank_length.Goals as goal

pub returns : goal.returns
returns c =
    let m = c.length_of.ensures in
    record { answer_is = fitted _ (c.answer.ensures ∙ ap (packed_cut _) m.count_is) m.verdict_is (packs.drop_narrow _ _) (packs.length_small _ _) }
