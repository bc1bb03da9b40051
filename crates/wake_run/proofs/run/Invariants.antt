use Rattle.wake_run.proofs.Laws.{Ran}
use Rattle.wake_run.proofs.run.Given as goal

abbrev pub invariant-loop-k : goal.invariant-loop-k
invariant-loop-k l = Ran l.np l.pi l.initial.tally l.frames l.tally l.k
