-- `slt_desk::slt_desk_to_aich` meets its contract: the distance of `desk::to_aich`, packed, which fits the fields.
use mathlib.Core.Path.{◌∙◌, ap}
use Rattle.desk.proofs.Exact.{packs}
use Rattle.packed.specs.Rule.{packed}
use Rattle.packed.proofs.Exact.{fitted}
use Rattle.slt_desk.proofs.slt_desk_to_aich.Goals as goal

pub returns : goal.returns
returns c =
    let a = c.to_aich.ensures in
    record {
      answer_is = fitted _ c.answer.ensures a.verdict_is (packs.timing_narrow _) (rw a.chips_is (packs.to_aich_small _)) ∙ ap (packed _) a.chips_is;
    }
