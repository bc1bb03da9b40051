-- `job_check::kind_head` meets its contract: no record is so long that its end is no machine number.
use mathlib.Core.Path.{ap, sym, ◌∙◌}
use native.Mathlib.Omega.{arith}
use lib.ListN.{get_or}
use Rattle.run.specs.Answers.{verdict_of}
use Rattle.run.proofs.Answers.{stops, goes_on}
use Rattle.kinds.proofs.ByKind.{known_is, second_is, size_is, size_small}
use Rattle.job.specs.Outcome.{kind_head}
use Rattle.job_check.proofs.kind_head.Goals as goal

pub returns-in_err-check : goal.returns-in_err-check
unfolding kind_head
returns-in_err-check c = stops _ _ _ c.from_residual.ensures.1 (c.in_err-check.ensures ∙ rw (known_is _ _ _ c.shape_in-shape.ensures))

pub returns-in_err-reach : goal.returns-in_err-reach
unfolding kind_head
returns-in_err-reach c =
    goes_on (c.in_ok-check.ensures ∙ rw (known_is _ _ _ c.shape_in-shape.ensures)) (stops _ _ _ c.from_residual-in_err-reach.ensures.1 c.in_err-reach.ensures)

pub returns-in_err-shape : goal.returns-in_err-shape
unfolding kind_head
returns-in_err-shape c =
    goes_on (c.in_ok-check.ensures ∙ rw (known_is _ _ _ c.shape_in-shape.ensures))
    (goes_on c.in_ok-reach.ensures
    (stops _ _ _ c.from_residual-in_err-shape.ensures.1 (ap verdict_of (sym c.in_err-shape.was) ∙ second_is _ _ _ c.shape_in-shape.ensures)))

pub overflow_add-from-2 : goal.overflow_add-from-2
overflow_add-from-2 c =
    let small = size_small (get_or c.args.window.now 0 0) (get_or c.args.window.now 1 0) (omega (arith, c.type_inv.window 1)) in
    omega (arith, size_is _ _ _ c.shape_in-shape.ensures, small)

pub returns : goal.returns
unfolding kind_head
returns c =
    goes_on (c.in_ok-check.ensures ∙ rw (known_is _ _ _ c.shape_in-shape.ensures))
    (goes_on c.in_ok-reach.ensures
    (goes_on (ap verdict_of (sym c.in_ok-shape.was) ∙ second_is _ _ _ c.shape_in-shape.ensures)
    (c.reach-2.ensures ∙ rw (size_is _ _ _ c.shape_in-shape.ensures))))
