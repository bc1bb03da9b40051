-- `dpch_rows::row_beside` meets its contract.
use Prim.Native.Nat.{◌-◌}
use native.Mathlib.Omega.{arith}
use Rattle.dpch_rows.proofs.Laws.{times, gives_up, beside_is}
use Rattle.dpch_rows.proofs.row_beside.Goals as goal

pub overflow_mul-result : goal.overflow_mul-result
overflow_mul-result c = let p = c.requires in omega (arith, times _ _ p.most p.data1)

pub overflow_mul-result-2 : goal.overflow_mul-result-2
overflow_mul-result-2 c = let p = c.requires in omega (arith, times _ _ p.most p.data2)

pub overflow_mul-result-3 : goal.overflow_mul-result-3
overflow_mul-result-3 c = let p = c.requires in omega (arith, times (2 - c.args.kind) _ (omega arith) p.tfci)

pub overflow_sub-result-2 : goal.overflow_sub-result-2
overflow_sub-result-2 c = gives_up _ _ c.requires

pub overflow_mul-result-4 : goal.overflow_mul-result-4
overflow_mul-result-4 c = let p = c.requires in omega (arith, times _ _ p.most p.tpc)

pub overflow_mul-result-5 : goal.overflow_mul-result-5
overflow_mul-result-5 c = let p = c.requires in omega (arith, p.tfci, times _ _ p.most p.tfci)

pub overflow_mul-result-6 : goal.overflow_mul-result-6
overflow_mul-result-6 c = let p = c.requires in omega (arith, times _ _ p.most p.pilot)

pub overflow_mul-result-7 : goal.overflow_mul-result-7
overflow_mul-result-7 c = let p = c.requires in omega (arith, times _ _ p.most p.slot)

pub returns : goal.returns
returns c = beside_is _ _ c.requires
