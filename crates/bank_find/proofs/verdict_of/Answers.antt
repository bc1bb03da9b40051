-- `bank_find::verdict_of` meets its contract: the chain of checks is the clause's.
use mathlib.Core.Path.{◌∙◌}
use Rattle.run.proofs.Chain.{or_else_is}
use Rattle.bank_find.proofs.verdict_of.Goals as goal

pub returns : goal.returns
returns c =
    or_else_is c.or_else.ensures (c.unless-2.ensures ∙ rw c.number-3.ensures)
    (or_else_is c.or_else-range.ensures (c.unless.ensures ∙ rw c.number-2.ensures) (c.unless-last.ensures ∙ rw c.number.ensures))
