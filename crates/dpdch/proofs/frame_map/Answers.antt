-- `dpdch::frame_map` meets its contract.
use Rattle.dpdch.specs.Rule.{frame_of}
use Rattle.dpdch.proofs.Laws.{frame_plain, carried}
use Rattle.dpdch.proofs.frame_map.Goals as goal

pub returns : goal.returns
returns c =
    let e = c.carry.ensures in
    record { verdict_is = e.verdict_is; out_is = carried (frame_of _) (λ h. frame_plain _ _ h) e }
