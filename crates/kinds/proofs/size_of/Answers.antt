-- `kinds::size_of` meets its contract: each arm is the definition's for its kind.
use Rattle.run.specs.Fields.{total}
use native.Mathlib.Omega.{arith}
use Rattle.kinds.specs.Rule.{by_kind, size_of}
use Rattle.dpch.proofs.Exact.{normal_fill, format_sizes}
use Rattle.kinds.proofs.size_of.Goals as goal

pub overflow_add-result-in-Dpch : goal.overflow_add-result-in-Dpch
unfolding total
overflow_add-result-in-Dpch c = rw c.format_of-f.ensures (omega (arith, normal_fill c.args.second, (format_sizes c.args.second).short))

pub overflow_add-result-in-Dpch-2 : goal.overflow_add-result-in-Dpch-2
unfolding total
overflow_add-result-in-Dpch-2 c = rw c.format_of-f.ensures (omega (arith, normal_fill c.args.second, (format_sizes c.args.second).short))

pub overflow_add-result-in-Dpch-3 : goal.overflow_add-result-in-Dpch-3
unfolding total
overflow_add-result-in-Dpch-3 c = rw c.format_of-f.ensures (omega (arith, normal_fill c.args.second, (format_sizes c.args.second).short))

pub returns-in-Aich : goal.returns-in-Aich
unfolding size_of by_kind
returns-in-Aich c = rw c.in-Aich.is

pub returns-in-Pich : goal.returns-in-Pich
unfolding size_of by_kind
returns-in-Pich c = rw c.in-Pich.is

pub returns-in-Dpch : goal.returns-in-Dpch
unfolding size_of by_kind
returns-in-Dpch c = rw (c.format_of-f.ensures, c.in-Dpch.is)
