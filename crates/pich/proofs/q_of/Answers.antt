-- `pich::q_of` meets its contract: the product stays within 144·144.
use Prim.Native.Nat.{◌+◌, ◌*◌, ◌/◌, ◌%◌, ◌≤◌}
use native.Mathlib.Omega.{arith}
use Rattle.pich.specs.Rule.{q_of}
use Rattle.pich.proofs.Laws.{groups, scaled}
use Rattle.pich.proofs.q_of.Goals as goal
use Rattle.pich.proofs.q_of.Goals.{Start}

bound : (c : Start) → 18 * (c.args.sfn + c.args.sfn / 8 + c.args.sfn / 64 + c.args.sfn / 512) % 144 * c.args.np ≤ 20736
bound c = scaled _ c.args.np (groups c.args.np c.requires.0).few

pub parts-requires : goal.parts-requires
parts-requires c = omega (arith, (groups _ c.requires.0).few)

pub overflow_add-result : goal.overflow_add-result
overflow_add-result c = omega (arith, bound (goal.at.overflow_add-result c).Start, (groups _ c.requires.0).few)

pub returns : goal.returns
unfolding q_of
returns c = rw c.parts.ensures
