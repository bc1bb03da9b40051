-- `scan_diff::same_front` meets its contract.
use mathlib.Core.Path.{◌∙◌}
use borrow.Author.Tests.{le-leb, lt-leb}
use Rattle.scan_diff.proofs.same_front.Goals as goal

pub returns-then-s-n : goal.returns-then-s-n
returns-then-s-n c = rw (lt-leb _ _ c.if-s-n.true)

pub returns-then-t-n : goal.returns-then-t-n
returns-then-t-n c = rw (le-leb _ _ c.if-s-n.false, lt-leb _ _ c.if-t-n.true)

pub returns : goal.returns
returns c = c.all_agree.ensures ∙ rw (le-leb _ _ c.if-s-n.false, le-leb _ _ c.if-t-n.false)
