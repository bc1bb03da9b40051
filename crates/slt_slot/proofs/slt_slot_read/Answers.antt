-- `slt_slot::slt_slot_read` meets its contract: the reader's own answer, packed, which fits the fields.
use mathlib.Core.Path.{◌∙◌, ap}
use Rattle.slot.proofs.Exact.{packs}
use Rattle.packed.specs.Rule.{packed}
use Rattle.packed.proofs.Exact.{fitted}
use Rattle.slt_slot.proofs.slt_slot_read.Goals as goal

pub returns : goal.returns
returns c =
    let m = c.read.ensures in
    record { answer_is = fitted _ c.answer.ensures m.verdict_is (packs.read_narrow _ _ _ _ _) (packs.command_small _ _ _ _ _ _ _ _ m) ∙ ap (packed _) m.command_is; data_is = m.data_is; tfci_is = m.tfci_is }
