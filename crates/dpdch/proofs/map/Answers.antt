-- `dpdch::map` meets its contract.
use Rattle.dpdch.specs.Rule.{slot_of}
use Rattle.dpdch.proofs.Laws.{slot_plain, carried}
use Rattle.dpdch.proofs.map.Goals as goal

pub returns : goal.returns
returns c =
    let e = c.carry.ensures in
    record { verdict_is = e.verdict_is; out_is = carried slot_of (λ _. slot_plain _) e }
