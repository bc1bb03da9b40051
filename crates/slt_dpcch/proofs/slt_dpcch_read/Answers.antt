-- `slt_dpcch::slt_dpcch_read` meets its contract: the reader's own answer, packed, which fits the fields.
use mathlib.Core.Path.{◌∙◌, ap}
use Rattle.dpcch.proofs.Exact.{packs}
use Rattle.packed.specs.Rule.{packed}
use Rattle.packed.proofs.Exact.{fitted}
use Rattle.slt_dpcch.proofs.slt_dpcch_read.Goals as goal

pub returns : goal.returns
returns c =
    let m = c.read.ensures in
    record { answer_is = fitted _ c.answer.ensures m.verdict_is (packs.read_narrow _ _ _ _ _) (packs.command_small _ _ _ _ _ _ _ _ m) ∙ ap (packed _) m.command_is; tfci_is = m.tfci_is; fbi_is = m.fbi_is }
