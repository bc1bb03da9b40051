-- `dpch::format_of` meets its contract: at each number of the match the table's row, and past the table the row of zeros.
use mathlib.Core.Path.{sym, ◌∙◌}
use Prim.Native.Nat.{◌≤◌}
use native.Mathlib.Omega.{arith}
use lib.ListN.{get_or-eq_default}
use Rattle.dpch.specs.Formats.{formats, format_of}
use Rattle.dpch.proofs.format_of.Goals as goal

pub returns-in-0 : goal.returns-in-0
unfolding format_of formats
returns-in-0 c = c.row.ensures ∙ rw c.in-0.is

pub returns-in-1 : goal.returns-in-1
unfolding format_of formats
returns-in-1 c = c.row-in-1.ensures ∙ rw c.in-1.is

pub returns-in-2 : goal.returns-in-2
unfolding format_of formats
returns-in-2 c = c.row-in-2.ensures ∙ rw c.in-2.is

pub returns-in-3 : goal.returns-in-3
unfolding format_of formats
returns-in-3 c = c.row-in-3.ensures ∙ rw c.in-3.is

pub returns-in-4 : goal.returns-in-4
unfolding format_of formats
returns-in-4 c = c.row-in-4.ensures ∙ rw c.in-4.is

pub returns-in-5 : goal.returns-in-5
unfolding format_of formats
returns-in-5 c = c.row-in-5.ensures ∙ rw c.in-5.is

pub returns-in-6 : goal.returns-in-6
unfolding format_of formats
returns-in-6 c = c.row-in-6.ensures ∙ rw c.in-6.is

pub returns-in-7 : goal.returns-in-7
unfolding format_of formats
returns-in-7 c = c.row-in-7.ensures ∙ rw c.in-7.is

pub returns-in-8 : goal.returns-in-8
unfolding format_of formats
returns-in-8 c = c.row-in-8.ensures ∙ rw c.in-8.is

pub returns-in-9 : goal.returns-in-9
unfolding format_of formats
returns-in-9 c = c.row-in-9.ensures ∙ rw c.in-9.is

pub returns-in-10 : goal.returns-in-10
unfolding format_of formats
returns-in-10 c = c.row-in-10.ensures ∙ rw c.in-10.is

pub returns-in-11 : goal.returns-in-11
unfolding format_of formats
returns-in-11 c = c.row-in-11.ensures ∙ rw c.in-11.is

pub returns-in-12 : goal.returns-in-12
unfolding format_of formats
returns-in-12 c = c.row-in-12.ensures ∙ rw c.in-12.is

pub returns-in-13 : goal.returns-in-13
unfolding format_of formats
returns-in-13 c = c.row-in-13.ensures ∙ rw c.in-13.is

pub returns-in-14 : goal.returns-in-14
unfolding format_of formats
returns-in-14 c = c.row-in-14.ensures ∙ rw c.in-14.is

pub returns-in-15 : goal.returns-in-15
unfolding format_of formats
returns-in-15 c = c.row-in-15.ensures ∙ rw c.in-15.is

pub returns-in-16 : goal.returns-in-16
unfolding format_of formats
returns-in-16 c = c.row-in-16.ensures ∙ rw c.in-16.is

pub returns-in_default : goal.returns-in_default
unfolding format_of formats
returns-in_default c =
    let past : 17 ≤ c.args.n = omega arith in
    c.no_row.ensures ∙ sym (get_or-eq_default formats _ past)
