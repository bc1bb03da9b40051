use mathlib.Core.Path.{◌≡◌}
use Prim.Native.Nat.{◌-◌, ◌%◌, ◌≤◌}
use lib.ListN.{length}
use Rattle.run.proofs.Front.{Front}
use Rattle.hspdsch.specs.Rule.{coded}
use Rattle.hspdsch.specs.Outcome.{flip}
use Rattle.hspdsch_encode.proofs.encode_all.Given as goal

abbrev pub invariant-loop-i : goal.invariant-loop-i
invariant-loop-i g l = (l.i % 8 ≡ 0) × (l.i ≤ length l.input) × Front (coded flip g.row.FORMAT l.input) l.initial.out l.out l.i

abbrev pub decreases-loop-i : goal.decreases-loop-i
decreases-loop-i g l = length l.input - l.i
