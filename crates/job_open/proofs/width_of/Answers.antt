-- `job_open::width_of` meets its contract.
use borrow.Author.Tests.{eq-eqb, ne_eqb}
use Rattle.job.specs.Rule.{width_of}
use Rattle.job_open.proofs.width_of.Goals as goal

pub returns-then-version-eq1 : goal.returns-then-version-eq1
unfolding width_of
returns-then-version-eq1 c = rw (eq-eqb _ _ c.if-version-eq1.true)

pub returns-else-version-eq1 : goal.returns-else-version-eq1
unfolding width_of
returns-else-version-eq1 c = rw (ne_eqb _ _ c.if-version-eq1.false)
