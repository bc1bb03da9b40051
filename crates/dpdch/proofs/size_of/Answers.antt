-- `dpdch::size_of` meets its contract: at each number of the match the table's size, and past the table 0.
use mathlib.Core.Path.{sym}
use Prim.Native.Nat.{◌≤◌}
use native.Mathlib.Omega.{arith}
use lib.ListN.{get_or-eq_default}
use Rattle.dpch.specs.Uplink.{dpdch_sizes, dpdch_size}
use Rattle.dpdch.proofs.size_of.Goals as goal

pub returns-in-0 : goal.returns-in-0
unfolding dpdch_size dpdch_sizes
returns-in-0 c = rw c.in-0.is

pub returns-in-1 : goal.returns-in-1
unfolding dpdch_size dpdch_sizes
returns-in-1 c = rw c.in-1.is

pub returns-in-2 : goal.returns-in-2
unfolding dpdch_size dpdch_sizes
returns-in-2 c = rw c.in-2.is

pub returns-in-3 : goal.returns-in-3
unfolding dpdch_size dpdch_sizes
returns-in-3 c = rw c.in-3.is

pub returns-in-4 : goal.returns-in-4
unfolding dpdch_size dpdch_sizes
returns-in-4 c = rw c.in-4.is

pub returns-in-5 : goal.returns-in-5
unfolding dpdch_size dpdch_sizes
returns-in-5 c = rw c.in-5.is

pub returns-in-6 : goal.returns-in-6
unfolding dpdch_size dpdch_sizes
returns-in-6 c = rw c.in-6.is

pub returns-in_default : goal.returns-in_default
unfolding dpdch_size dpdch_sizes
returns-in_default c =
    let n = c.args.format in
    let past : 7 ≤ n = omega arith in
    sym (get_or-eq_default dpdch_sizes 0 past)
