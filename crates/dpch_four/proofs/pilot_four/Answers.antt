-- `dpch_four::pilot_four` meets its contract: at each number of the match the four bits of table 14, and past the table zeros.
use Prim.Native.Nat.{◌≤◌}
use native.Mathlib.Omega.{arith}
use lib.ListN.{replicate, get_or-eq_default}
use Rattle.run.specs.Fields.{joined, cut, field}
use Rattle.dpch.specs.SecondPilots.{table14, printed14, second_pilot}
use Rattle.dpch_four.proofs.pilot_four.Goals as goal

pub returns-in-0 : goal.returns-in-0
unfolding table14 printed14 second_pilot joined cut field
returns-in-0 c = rw c.in-0.is

pub returns-in-1 : goal.returns-in-1
unfolding table14 printed14 second_pilot joined cut field
returns-in-1 c = rw c.in-1.is

pub returns-in-2 : goal.returns-in-2
unfolding table14 printed14 second_pilot joined cut field
returns-in-2 c = rw c.in-2.is

pub returns-in-3 : goal.returns-in-3
unfolding table14 printed14 second_pilot joined cut field
returns-in-3 c = rw c.in-3.is

pub returns-in-4 : goal.returns-in-4
unfolding table14 printed14 second_pilot joined cut field
returns-in-4 c = rw c.in-4.is

pub returns-in-5 : goal.returns-in-5
unfolding table14 printed14 second_pilot joined cut field
returns-in-5 c = rw c.in-5.is

pub returns-in-6 : goal.returns-in-6
unfolding table14 printed14 second_pilot joined cut field
returns-in-6 c = rw c.in-6.is

pub returns-in-7 : goal.returns-in-7
unfolding table14 printed14 second_pilot joined cut field
returns-in-7 c = rw c.in-7.is

pub returns-in-8 : goal.returns-in-8
unfolding table14 printed14 second_pilot joined cut field
returns-in-8 c = rw c.in-8.is

pub returns-in-9 : goal.returns-in-9
unfolding table14 printed14 second_pilot joined cut field
returns-in-9 c = rw c.in-9.is

pub returns-in-10 : goal.returns-in-10
unfolding table14 printed14 second_pilot joined cut field
returns-in-10 c = rw c.in-10.is

pub returns-in-11 : goal.returns-in-11
unfolding table14 printed14 second_pilot joined cut field
returns-in-11 c = rw c.in-11.is

pub returns-in-12 : goal.returns-in-12
unfolding table14 printed14 second_pilot joined cut field
returns-in-12 c = rw c.in-12.is

pub returns-in-13 : goal.returns-in-13
unfolding table14 printed14 second_pilot joined cut field
returns-in-13 c = rw c.in-13.is

pub returns-in-14 : goal.returns-in-14
unfolding table14 printed14 second_pilot joined cut field
returns-in-14 c = rw c.in-14.is

pub returns-in_default : goal.returns-in_default
unfolding table14 printed14 second_pilot joined cut field
returns-in_default c =
    let n = c.args.slot in
    let past : 15 ≤ n = omega arith in
    rw (get_or-eq_default table14 (replicate 15 0) past)
