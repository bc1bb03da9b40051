-- `hspdsch::size_of` meets its contract: three times the table's size at each number of the match, and past the table 0.
use mathlib.Core.Path.{sym, ap}
use Prim.Native.Nat.{ℕ, ◌*◌, ◌≤◌}
use native.Mathlib.Omega.{arith}
use lib.ListN.{get_or-eq_default}
use Rattle.hspdsch.specs.Rule.{slot_sizes, size}
use Rattle.hspdsch.proofs.size_of.Goals as goal

pub returns-in-0 : goal.returns-in-0
unfolding size slot_sizes
returns-in-0 c = rw c.in-0.is

pub returns-in-1 : goal.returns-in-1
unfolding size slot_sizes
returns-in-1 c = rw c.in-1.is

pub returns-in_default : goal.returns-in_default
unfolding size slot_sizes
returns-in_default c =
    let n = c.args.format in
    let past : 2 ≤ n = omega arith in
    sym (ap (λ (k : ℕ). 3 * k) (get_or-eq_default slot_sizes 0 past))
