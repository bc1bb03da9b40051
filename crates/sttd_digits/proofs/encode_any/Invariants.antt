use mathlib.Core.Path.{◌≡◌}
use Prim.Native.Nat.{◌-◌, ◌%◌, ◌≤◌}
use Rattle.run.proofs.Front.{Front}
use Rattle.sttd.specs.Outcome.{encoded_over}
use Rattle.sttd_digits.proofs.encode_any.Given as goal

abbrev pub invariant-loop-i : goal.invariant-loop-i
invariant-loop-i l = (l.i % 4 ≡ 0) × (l.i ≤ l.end) × Front (encoded_over l.input l.initial.out) l.initial.out l.out l.i

abbrev pub decreases-loop-i : goal.decreases-loop-i
decreases-loop-i l = l.end - l.i
