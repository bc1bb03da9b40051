-- `antenna_map::map` meets its contract: antenna 1, antenna 2, or neither.
use native.Mathlib.Omega.{arith}
use Rattle.antenna.proofs.Checks.{first_mapped}
use Rattle.antenna_map.proofs.Laws.{none_mapped}
use Rattle.antenna_map.proofs.map.Goals as goal

pub returns-in-0 : goal.returns-in-0
returns-in-0 c = rw c.in-0.is (first_mapped _ _ _ _ _ _ c.map.ensures)

pub returns-in-1 : goal.returns-in-1
returns-in-1 c = rw c.in-1.is c.map_second.ensures

pub returns-in_default : goal.returns-in_default
returns-in_default c = none_mapped _ _ c.args.antenna _ _ _ c.args.out.now _ (omega arith) c.no_antenna.ensures
