-- `job_open::limit_of` meets its contract.
use borrow.Author.Tests.{eq-eqb, ne_eqb}
use Rattle.job.specs.Rule.{limit_of}
use Rattle.job_open.proofs.limit_of.Goals as goal

pub returns-then-version-eq1 : goal.returns-then-version-eq1
unfolding limit_of
returns-then-version-eq1 c = rw (eq-eqb _ _ c.if-version-eq1.true)

pub returns-else-version-eq1 : goal.returns-else-version-eq1
unfolding limit_of
returns-else-version-eq1 c = rw (ne_eqb _ _ c.if-version-eq1.false)
