use Rattle.run.proofs.Passing.{Passing}
use Rattle.pccpch_read.specs.Method.{begins_at}
use Rattle.pccpch_read.proofs.begins_dtx.Given as goal

abbrev pub invariant-loop-slot : goal.invariant-loop-slot
invariant-loop-slot l = Passing (begins_at l.frame) 15 l.slot l.good
