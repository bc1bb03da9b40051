-- `dpdch::frame_read` meets its contract.
use Rattle.dpdch.specs.Rule.{frame_data_in}
use Rattle.dpdch.proofs.Laws.{frame_data_plain, carried}
use Rattle.dpdch.proofs.frame_read.Goals as goal

pub returns : goal.returns
returns c =
    let e = c.carry.ensures in
    record { verdict_is = e.verdict_is; data_is = carried (frame_data_in _) (λ h. frame_data_plain _ _ h) e }
