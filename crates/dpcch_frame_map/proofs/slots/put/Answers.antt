-- `dpcch_frame_map::slots::put` meets its contract: each arm writes the format that it names.
use mathlib.Core.Path.{◌≡◌}
use native.Mathlib.Omega.{arith}
use Rattle.dpcch_frame_map.proofs.slots.put.Goals as goal

pub returns-in-0 : goal.returns-in-0
returns-in-0 c = rw c.in-0.is c.put_as.ensures

pub returns-in-1 : goal.returns-in-1
returns-in-1 c = rw c.in-1.is c.put_as-in-1.ensures

pub returns-in-2 : goal.returns-in-2
returns-in-2 c = rw c.in-2.is c.put_as-in-2.ensures

pub returns-in_default : goal.returns-in_default
returns-in_default c =
    let start = c in
    let last : start.args.format ≡ 3 = omega (arith, start.requires) in
    rw last c.put_as-in_default.ensures
