-- `dpch_pilot::first_row` meets its contract: at each number of the match the rule's row, and past the table the row of symbols 00.
use Prim.Native.Nat.{◌≤◌}
use native.Mathlib.Omega.{arith}
use lib.ListN.{get_or-eq_default}
use Rattle.run.specs.Fields.{joined}
use Rattle.dpch.specs.Pilots.{symbols1, symbols3, symbols5, symbols7, symbols_of, pilot_row}
use Rattle.dpch_pilot.proofs.first_row.Goals as goal

pub returns-in-0 : goal.returns-in-0
unfolding symbols1 symbols3 symbols5 symbols7 symbols_of pilot_row joined
returns-in-0 c = rw c.in-0.is

pub returns-in-1 : goal.returns-in-1
unfolding symbols1 symbols3 symbols5 symbols7 symbols_of pilot_row joined
returns-in-1 c = rw c.in-1.is

pub returns-in-2 : goal.returns-in-2
unfolding symbols1 symbols3 symbols5 symbols7 symbols_of pilot_row joined
returns-in-2 c = rw c.in-2.is

pub returns-in-3 : goal.returns-in-3
unfolding symbols1 symbols3 symbols5 symbols7 symbols_of pilot_row joined
returns-in-3 c = rw c.in-3.is

pub returns-in-4 : goal.returns-in-4
unfolding symbols1 symbols3 symbols5 symbols7 symbols_of pilot_row joined
returns-in-4 c = rw c.in-4.is

pub returns-in-5 : goal.returns-in-5
unfolding symbols1 symbols3 symbols5 symbols7 symbols_of pilot_row joined
returns-in-5 c = rw c.in-5.is

pub returns-in-6 : goal.returns-in-6
unfolding symbols1 symbols3 symbols5 symbols7 symbols_of pilot_row joined
returns-in-6 c = rw c.in-6.is

pub returns-in-7 : goal.returns-in-7
unfolding symbols1 symbols3 symbols5 symbols7 symbols_of pilot_row joined
returns-in-7 c = rw c.in-7.is

pub returns-in-8 : goal.returns-in-8
unfolding symbols1 symbols3 symbols5 symbols7 symbols_of pilot_row joined
returns-in-8 c = rw c.in-8.is

pub returns-in-9 : goal.returns-in-9
unfolding symbols1 symbols3 symbols5 symbols7 symbols_of pilot_row joined
returns-in-9 c = rw c.in-9.is

pub returns-in-10 : goal.returns-in-10
unfolding symbols1 symbols3 symbols5 symbols7 symbols_of pilot_row joined
returns-in-10 c = rw c.in-10.is

pub returns-in-11 : goal.returns-in-11
unfolding symbols1 symbols3 symbols5 symbols7 symbols_of pilot_row joined
returns-in-11 c = rw c.in-11.is

pub returns-in-12 : goal.returns-in-12
unfolding symbols1 symbols3 symbols5 symbols7 symbols_of pilot_row joined
returns-in-12 c = rw c.in-12.is

pub returns-in-13 : goal.returns-in-13
unfolding symbols1 symbols3 symbols5 symbols7 symbols_of pilot_row joined
returns-in-13 c = rw c.in-13.is

pub returns-in-14 : goal.returns-in-14
unfolding symbols1 symbols3 symbols5 symbols7 symbols_of pilot_row joined
returns-in-14 c = rw c.in-14.is

pub returns-in_default : goal.returns-in_default
unfolding symbols1 symbols3 symbols5 symbols7 symbols_of pilot_row joined
returns-in_default c =
    let n = c.args.slot in
    let past : 15 ≤ n = omega arith in
    rw (
      get_or-eq_default symbols1 0 past,
      get_or-eq_default symbols3 0 past,
      get_or-eq_default symbols5 0 past,
      get_or-eq_default symbols7 0 past,
    )
