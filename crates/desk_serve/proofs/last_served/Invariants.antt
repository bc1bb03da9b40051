use Rattle.aich.specs.Rule.{offers}
use Rattle.desk.proofs.Round.{Ring}
use Rattle.desk_serve.proofs.last_served.Given as goal

abbrev pub invariant-loop-met : goal.invariant-loop-met
invariant-loop-met l = Ring (offers l.candidates) l.last l.n l.place l.met l.rest
