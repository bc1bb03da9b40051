-- `job_open::check_length` meets its contract.
use mathlib.Core.Path.{◌∙◌}
use borrow.Author.Tests.{eq-eqb, ne_eqb}
use Rattle.job.specs.Outcome.{length_verdict}
use Rattle.job_open.proofs.check_length.Goals as goal

pub returns-then-version-eq1 : goal.returns-then-version-eq1
unfolding length_verdict
returns-then-version-eq1 c = c.check.ensures ∙ rw (eq-eqb _ _ c.if-version-eq1.true, c.limit_of-limit.ensures)

pub returns : goal.returns
unfolding length_verdict
returns c = rw (ne_eqb _ _ c.if-version-eq1.false)
