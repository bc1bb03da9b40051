-- `write::copy` meets its contract: the laws of writing from the front at one run over the other.
use mathlib.Core.Path.{sym}
use native.Mathlib.Omega.{arith}
use Rattle.run.proofs.Front.{front_none, front_length, front_store, front_end}
use Rattle.run.proofs.Over.{over_length, over_at, over_rest}
use Rattle.write.proofs.copy.Goals as goal

pub loop-i-init : goal.loop-i-init
loop-i-init c = front_none (over_length _ _)

pub bounds-dst-i : goal.bounds-dst-i
bounds-dst-i c = omega (arith, front_length c.loop-i.invariant)

pub loop-i-preserved : goal.loop-i-preserved
loop-i-preserved c = front_store 0 c.loop-i.invariant (omega (arith, front_length c.loop-i.invariant)) (sym (over_at _ _ _ 0 (omega arith)))

pub shape_of-dst : goal.shape_of-dst
shape_of-dst c = front_length c.loop-i.invariant

pub returns : goal.returns
returns c = front_end c.loop-i.invariant (over_rest c.args.src.now c.args.dst.now c.loop-i.i (omega arith))
