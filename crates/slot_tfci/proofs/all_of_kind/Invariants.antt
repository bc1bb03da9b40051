use Rattle.run.proofs.Passing.{Passing}
use Rattle.slot_tfci.specs.Method.{kind_at}
use Rattle.slot_tfci.proofs.all_of_kind.Given as goal

abbrev pub invariant-loop-k : goal.invariant-loop-k
invariant-loop-k l = Passing (kind_at l.silent l.s) l.n l.k l.good
