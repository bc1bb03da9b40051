use Prim.Native.Nat.{◌*◌}
use Rattle.run.proofs.Front.{Front}
use Rattle.aich.specs.Method.{half_of, firsts}
use Rattle.aich.proofs.find_sums.Given as goal

abbrev pub invariant-loop-k : goal.invariant-loop-k
invariant-loop-k l = Front (half_of (firsts l.values)) l.initial.sums l.sums (4 * l.k)
