use Rattle.run.specs.First.{is_at}
use Rattle.run.proofs.Passing.{Passing}
use Rattle.slot_fits.proofs.all_are.Given as goal

abbrev pub invariant-loop-k : goal.invariant-loop-k
invariant-loop-k l = Passing (is_at l.v l.s) l.n l.k l.good
