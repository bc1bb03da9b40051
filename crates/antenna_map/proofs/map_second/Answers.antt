-- `antenna_map::map_second` meets its contract: no slot is longer than the longer run.
use Rattle.antenna.proofs.Checks.{too_long}
use Rattle.antenna_map.proofs.map_second.Goals as goal

pub returns : goal.returns
returns c = too_long _ _ _ _ _ _ c.if-n-le1280.false c.map.ensures
