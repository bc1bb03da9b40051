use Rattle.aich.specs.Method.{fits_at}
use Rattle.run.proofs.Passing.{Passing}
use Rattle.aich.proofs.all_fit.Given as goal

abbrev pub invariant-loop-s : goal.invariant-loop-s
invariant-loop-s l = Passing (fits_at l.sums) 16 l.s l.good
