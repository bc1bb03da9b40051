-- `desk::to_aich` meets its contract.
use Rattle.desk.specs.Rule.{to_aich}
use Rattle.desk.proofs.to_aich.Goals as goal

pub returns : goal.returns
unfolding to_aich
returns c = let d = c.distance.ensures in record { verdict_is = d.verdict_is; chips_is = d.chips_is }
