-- `dpcch_put::put` meets its contract: each arm writes the format that it names.
use Prim.Native.Nat.{◌<◌}
use native.Mathlib.Omega.{arith}
use Rattle.dpcch.proofs.Accept.{sizes_past}
use Rattle.dpcch_put.proofs.put.Goals as goal

pub returns-in-0 : goal.returns-in-0
returns-in-0 c = rw c.in-0.is c.put_as.ensures

pub returns-in-1 : goal.returns-in-1
returns-in-1 c = rw c.in-1.is c.put_as-in-1.ensures

pub returns-in-2 : goal.returns-in-2
returns-in-2 c = rw c.in-2.is c.put_as-in-2.ensures

pub returns-in-3 : goal.returns-in-3
returns-in-3 c = rw c.in-3.is c.put_as-in-3.ensures

pub returns-in_default : goal.returns-in_default
returns-in_default c =
    let past : 3 < c.args.format = omega arith in
    record { out_is = rw (sizes_past _ _ _ _ past) }
