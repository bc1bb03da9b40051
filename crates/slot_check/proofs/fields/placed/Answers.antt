-- `slot_check::fields::placed` meets its contract.
use mathlib.Core.Path.{sym}
use borrow.Author.Tests.{le-leb, lt-leb}
use Rattle.run.specs.Verdicts.{unless}
use Rattle.slot_check.proofs.fields.placed.Goals as goal

pub returns-then-s-i : goal.returns-then-s-i
unfolding unless
returns-then-s-i c = rw (sym c.unwrap_or-i.ensures, le-leb _ _ c.if-s-i.true)

pub returns : goal.returns
unfolding unless
returns c = rw (sym c.unwrap_or-i.ensures, lt-leb _ _ c.if-s-i.false)
