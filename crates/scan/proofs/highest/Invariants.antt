use Rattle.run.specs.First.{Every, at_most}
use Rattle.scan.proofs.highest.Given as goal

abbrev pub invariant-loop-digit : goal.invariant-loop-digit
invariant-loop-digit l = Every (at_most l.high l.s) l.digit-index
