use Prim.Native.Nat.{◌*◌}
use Rattle.run.specs.First.{Every}
use Rattle.pich.specs.Outcome.{stands}
use Rattle.pich_read.proofs.first_misfit.Given as goal

abbrev pub invariant-loop-q : goal.invariant-loop-q
invariant-loop-q l = Every (stands l.np l.frame) (l.width * l.q)
