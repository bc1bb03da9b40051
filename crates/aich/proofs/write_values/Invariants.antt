use Prim.Native.Nat.{◌*◌}
use Rattle.run.proofs.Front.{Front}
use Rattle.aich.specs.Rule.{values_of}
use Rattle.aich.proofs.write_values.Given as goal

abbrev pub invariant-loop-k : goal.invariant-loop-k
invariant-loop-k l = Front (values_of l.indicators) l.initial.values l.values (8 * l.k)
