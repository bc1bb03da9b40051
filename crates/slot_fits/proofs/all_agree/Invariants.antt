use Rattle.run.specs.First.{agree}
use Rattle.run.proofs.Passing.{Passing}
use Rattle.slot_fits.proofs.all_agree.Given as goal

abbrev pub invariant-loop-k : goal.invariant-loop-k
invariant-loop-k l = Passing (agree l.s l.t) l.n l.k l.good
