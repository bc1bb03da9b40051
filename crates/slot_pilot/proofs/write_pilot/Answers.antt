-- `slot_pilot::write_pilot` meets its contract.
use mathlib.Core.Path.{◌∙◌}
use borrow.Author.Tests.{ne_eqb}
use Rattle.dpch.specs.Compressed.{source_for}
use Rattle.slot_pilot.proofs.write_pilot.Goals as goal

pub returns-then-kind-eq-KIND_B : goal.returns-then-kind-eq-KIND_B
returns-then-kind-eq-KIND_B c = c.write_doubled.ensures ∙ rw c.if-kind-eq-KIND_B.true

pub returns-else-kind-eq-KIND_B : goal.returns-else-kind-eq-KIND_B
unfolding source_for
returns-else-kind-eq-KIND_B c = c.write_plain.ensures ∙ rw (ne_eqb _ 2 c.if-kind-eq-KIND_B.false)
