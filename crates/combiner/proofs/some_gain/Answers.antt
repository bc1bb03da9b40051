-- `combiner::some_gain` meets its contract.
use mathlib.Core.Path.{sym, ◌∙◌}
use Rattle.combiner.specs.Outcome.{some_gain}
use Rattle.combiner.proofs.some_gain.Goals as goal
use Rattle.combiner.proofs.some_gain.Goals.{then-is_zero, else-is_zero}

pub returns : goal.returns
unfolding some_gain
returns c =
    elim c.if-is_zero.branch [
      | then-is_zero w ↦ rw (w.result-is, w.is_zero-then-is_zero.ensures, sym c.is_zero.ensures ∙ w.if-is_zero.true)
      | else-is_zero w ↦ rw (w.result-is, w.if-is_zero.false, sym c.is_zero.ensures ∙ w.if-is_zero.false)
    ]
