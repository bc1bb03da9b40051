-- `run::verdict::or_else` meets its contract.
use borrow.Author.Tests.{eq-eqb, ne_eqb}
use Rattle.run.specs.Verdicts.{or_else}
use Rattle.run.proofs.verdict.or_else.Goals as goal

pub returns-then-v-eq0 : goal.returns-then-v-eq0
unfolding or_else
returns-then-v-eq0 c = rw (eq-eqb _ _ c.if-v-eq0.true)

pub returns-else-v-eq0 : goal.returns-else-v-eq0
unfolding or_else
returns-else-v-eq0 c = rw (ne_eqb _ _ c.if-v-eq0.false)
