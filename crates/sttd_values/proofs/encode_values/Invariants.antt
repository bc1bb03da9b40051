use Prim.Native.Nat.{◌*◌}
use lib.IntN.{neg_ℤ}
use Rattle.run.proofs.Front.{Front}
use Rattle.sttd.specs.Rule.{sttd}
use Rattle.sttd_values.proofs.encode_values.Given as goal

abbrev pub invariant-loop-k : goal.invariant-loop-k
invariant-loop-k l = Front (sttd neg_ℤ l.input) l.initial.out l.out (4 * l.k)
