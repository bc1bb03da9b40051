use lib.ListN.{drop}
use lib.Seq.{paste}
use mathlib.Core.Path.{◌≡◌}
use Rattle.bank_drop.proofs.close.Given as goal

abbrev pub invariant-loop-i : goal.invariant-loop-i
invariant-loop-i l = l.bank ≡ paste l.initial.bank l.start (drop l.from l.initial.bank) l.i
