-- `desk::to_message` meets its contract.
use Rattle.desk.specs.Rule.{to_message}
use Rattle.desk.proofs.to_message.Goals as goal

pub returns : goal.returns
unfolding to_message
returns c = let d = c.distance.ensures in record { verdict_is = d.verdict_is; chips_is = d.chips_is }
