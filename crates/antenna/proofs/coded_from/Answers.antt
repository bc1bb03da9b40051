-- `antenna::coded_from` meets its contract.
use borrow.Author.Tests.{le-leb, lt-leb}
use Rattle.antenna.specs.Rule.{coded_from}
use Rattle.antenna.proofs.coded_from.Goals as goal

pub returns-then-format-le1 : goal.returns-then-format-le1
unfolding coded_from
returns-then-format-le1 c = rw (le-leb _ 1 c.if-format-le1.true)

pub returns-else-format-le1 : goal.returns-else-format-le1
unfolding coded_from
returns-else-format-le1 c = rw (lt-leb _ 1 c.if-format-le1.false)
