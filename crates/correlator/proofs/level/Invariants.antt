use mathlib.Core.Path.{◌≡◌}
use Prim.Native.Nat.{◌≤◌}
use lib.ListN.{length}
use Rattle.correlator.proofs.Folding.{Level}
use Rattle.correlator.proofs.level.Given as goal

abbrev pub invariant-loop-k : goal.invariant-loop-k
invariant-loop-k l = (l.k ≤ l.h) × (length l.s ≡ length l.initial.s) × Level l.h l.initial.s l.s l.k
