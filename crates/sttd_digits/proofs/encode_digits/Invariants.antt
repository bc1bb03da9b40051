use Prim.Native.Nat.{◌*◌}
use Rattle.run.proofs.Front.{Front}
use Rattle.sttd.specs.Outcome.{encoded_over}
use Rattle.sttd_digits.proofs.encode_digits.Given as goal

abbrev pub invariant-loop-k : goal.invariant-loop-k
invariant-loop-k l = Front (encoded_over l.input l.initial.out) l.initial.out l.out (8 * l.k)
