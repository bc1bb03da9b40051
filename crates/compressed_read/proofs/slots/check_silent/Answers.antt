-- `compressed_read::slots::check_silent` meets its contract: where no digit is above DTX and none below, all are DTX.
use mathlib.Core.Path.{refl}
use Rattle.run.proofs.Answers.{stops, goes_on, found_each}
use Rattle.run.proofs.Places.{above_first, other_first}
use Rattle.compressed.specs.Outcome.{silent_verdict}
use Rattle.compressed.proofs.Accept.{silent_between}
use Rattle.compressed_read.proofs.slots.check_silent.Goals as goal

pub returns-in_err-refused_at : goal.returns-in_err-refused_at
unfolding silent_verdict
returns-in_err-refused_at c =
    stops _ _ _ c.from_residual.ensures.1 (found_each _ _ _ _ c.above.result (above_first _ _ c.above.ensures) c.in_err-refused_at.ensures)

pub returns-then-lowest-ge-DTX : goal.returns-then-lowest-ge-DTX
returns-then-lowest-ge-DTX c =
    silent_between _ _ (found_each _ _ _ _ c.above.result (above_first _ _ c.above.ensures) c.in_ok-refused_at.ensures) refl c.lowest.ensures c.if-lowest-ge-DTX.true

pub returns : goal.returns
unfolding silent_verdict
returns c =
    goes_on (found_each _ _ _ _ c.above.result (above_first _ _ c.above.ensures) c.in_ok-refused_at.ensures)
    (found_each _ _ _ _ c.other.result (other_first _ _ c.other.ensures) c.refused_at-2.ensures)
