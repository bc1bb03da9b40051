-- `slot_check::fields::pilot_differs` meets its contract.
use mathlib.Core.Path.{◌∙◌}
use borrow.Author.Tests.{ne_eqb}
use Rattle.dpch.specs.Pilots.{pilot_source}
use Rattle.dpch.specs.Compressed.{source_for}
use Rattle.slot_check.proofs.fields.pilot_differs.Goals as goal

pub returns-then-kind-eq-KIND_B : goal.returns-then-kind-eq-KIND_B
unfolding source_for
returns-then-kind-eq-KIND_B c = c.differs.ensures ∙ rw (c.if-kind-eq-KIND_B.true, c.doubled_row.ensures)

pub returns-else-kind-eq-KIND_B : goal.returns-else-kind-eq-KIND_B
unfolding source_for pilot_source
returns-else-kind-eq-KIND_B c = c.differs-else-kind-eq-KIND_B.ensures ∙ rw (ne_eqb _ 2 c.if-kind-eq-KIND_B.false, c.pilot_row.ensures)
