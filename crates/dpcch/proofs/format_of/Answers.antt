-- `dpcch::format_of` meets its contract: at each number of the match the table's row, and past the table the row of zeros.
use mathlib.Core.Path.{sym, ◌∙◌}
use Prim.Native.Nat.{◌≤◌}
use native.Mathlib.Omega.{arith}
use lib.ListN.{get_or-eq_default}
use Rattle.dpch.specs.Uplink.{dpcch_formats, dpcch_format}
use Rattle.dpcch.proofs.format_of.Goals as goal

pub returns-in-0 : goal.returns-in-0
unfolding dpcch_format dpcch_formats
returns-in-0 c = c.row.ensures ∙ rw c.in-0.is

pub returns-in-1 : goal.returns-in-1
unfolding dpcch_format dpcch_formats
returns-in-1 c = c.row-in-1.ensures ∙ rw c.in-1.is

pub returns-in-2 : goal.returns-in-2
unfolding dpcch_format dpcch_formats
returns-in-2 c = c.row-in-2.ensures ∙ rw c.in-2.is

pub returns-in-3 : goal.returns-in-3
unfolding dpcch_format dpcch_formats
returns-in-3 c = c.row-in-3.ensures ∙ rw c.in-3.is

pub returns-in_default : goal.returns-in_default
unfolding dpcch_format dpcch_formats
returns-in_default c =
    let n = c.args.n in
    let past : 4 ≤ n = omega arith in
    c.row-in_default.ensures ∙ sym (get_or-eq_default dpcch_formats _ past)
