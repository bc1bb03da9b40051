-- `compressed::check_gap_head` meets its contract: the chain of checks is the definition's.
use mathlib.Core.Path.{◌∙◌}
use Rattle.run.proofs.Answers.{stops, goes_on}
use Rattle.compressed.specs.Outcome.{gap_head}
use Rattle.compressed.proofs.Accept.{some_kind}
use Rattle.compressed.proofs.check_gap_head.Goals as goal

pub returns-in_err-require : goal.returns-in_err-require
unfolding gap_head
returns-in_err-require c = stops _ _ _ c.from_residual.ensures.1 (c.in_err-require.ensures ∙ rw (some_kind c.args.f))

pub returns-in_err-require-2 : goal.returns-in_err-require-2
unfolding gap_head
returns-in_err-require-2 c =
    goes_on (c.in_ok-require.ensures ∙ rw (some_kind c.args.f))
    (stops _ _ _ c.from_residual-in_err-require-2.ensures.1 (c.in_err-require-2.ensures ∙ rw c.gap_stands.ensures))

pub returns : goal.returns
unfolding gap_head
returns c =
    goes_on (c.in_ok-require.ensures ∙ rw (some_kind c.args.f))
    (goes_on (c.in_ok-require-2.ensures ∙ rw c.gap_stands.ensures) c.lengths_are.ensures)
