use Prim.Native.Nat.{◌*◌, ◌≤◌}
use Rattle.run.proofs.Front.{Front}
use Rattle.correlator.specs.Rule.{combined}
use Rattle.correlator.specs.Method.{pair_sums}
use Rattle.correlator.proofs.pair_sums.Given as goal

abbrev pub invariant-loop-m : goal.invariant-loop-m
invariant-loop-m l = (l.m ≤ 8) × Front (pair_sums (combined l.h1 l.h2 l.received)) l.initial.sums l.sums (2 * l.m)
