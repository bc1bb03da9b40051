-- `job_check::shape_in` meets its contract.
use mathlib.Core.Path.{◌∙◌}
use Rattle.job_check.proofs.shape_in.Goals as goal

pub returns : goal.returns
returns c = c.shape_of.ensures ∙ rw (c.byte_at-2.ensures, c.byte_at.ensures)
