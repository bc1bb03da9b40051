use Rattle.run.specs.First.{at_most}
use Rattle.run.proofs.Passing.{Passing}
use Rattle.scan.proofs.all_at_most.Given as goal

abbrev pub invariant-loop-digit : goal.invariant-loop-digit
invariant-loop-digit l = Passing (at_most l.top l.s) l.n l.digit-index l.good
