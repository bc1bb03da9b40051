-- `sttd_digits::encode_any` meets its contract: each turn writes one block more from the front on.
use mathlib.Core.Path.{refl}
use Prim.Native.Nat.{◌-◌}
use native.Mathlib.Omega.{arith}
use Rattle.run.proofs.Front.{front_none, front_length}
use Rattle.sttd.proofs.Runs.{encoded_length, encoded_block, encoded_end}
use Rattle.sttd_digits.proofs.encode_any.Goals as goal

pub loop-i-init : goal.loop-i-init
loop-i-init c = (refl, omega arith, front_none (encoded_length _ _))

pub loop-i-preserved : goal.loop-i-preserved
loop-i-preserved c = (
  omega arith,
  omega arith,
  encoded_block _ _ c.min-n.ensures c.loop-i.invariant.0 c.loop-i-test.true c.loop-i.invariant.2 c.bar.ensures refl refl c.bar-in-loop-i.ensures,
)

pub shape_of-out : goal.shape_of-out
shape_of-out c = front_length c.loop-i.invariant.2

pub returns : goal.returns
returns c =
    encoded_end _ _ c.min-n.ensures (omega arith) c.loop-i.invariant.2
