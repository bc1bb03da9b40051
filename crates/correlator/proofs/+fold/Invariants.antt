-- `correlator::fold`: the measure is the logarithm of the length and falls at each call, so calls are never nested deeper than that.
use Rattle.correlator.specs.Method.{depth}
use Rattle.correlator.proofs.+fold.Given as goal

abbrev pub decreases-fold : goal.decreases-fold
decreases-fold l = depth l.s.now
