use Rattle.run.proofs.Front.{Front}
use Rattle.pich.specs.Rule.{indicators_in}
use Rattle.pich_read.proofs.read_indicators.Given as goal

abbrev pub invariant-loop-q : goal.invariant-loop-q
invariant-loop-q l = Front (indicators_in l.np l.frame) l.initial.indicators l.indicators l.q
