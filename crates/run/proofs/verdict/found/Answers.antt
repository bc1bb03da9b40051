-- `run::verdict::found` meets its contract.
use borrow.Author.Tests.{le-leb, lt-leb}
use Rattle.run.specs.Verdicts.{unless}
use Rattle.run.proofs.verdict.found.Goals as goal

pub returns-then-s-i : goal.returns-then-s-i
unfolding unless
returns-then-s-i c = rw (le-leb _ _ c.if-s-i.true)

pub returns : goal.returns
unfolding unless
returns c = rw (lt-leb _ _ c.if-s-i.false)
