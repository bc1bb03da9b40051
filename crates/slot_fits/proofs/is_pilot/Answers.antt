-- `slot_fits::is_pilot` meets its contract.
use mathlib.Core.Path.{◌∙◌}
use borrow.Author.Tests.{ne_eqb}
use Rattle.dpch.specs.Compressed.{pilot_for}
use Rattle.slot_fits.proofs.Laws.{width_plain}
use Rattle.slot_fits.proofs.is_pilot.Goals as goal

pub is_doubled-requires : goal.is_doubled-requires
is_doubled-requires c = rw c.if-kind-eq-KIND_B.true at c.requires

pub is_plain-requires : goal.is_plain-requires
is_plain-requires c = width_plain _ _ c.if-kind-eq-KIND_B.false c.requires

pub returns-then-kind-eq-KIND_B : goal.returns-then-kind-eq-KIND_B
returns-then-kind-eq-KIND_B c = c.is_doubled.ensures ∙ rw c.if-kind-eq-KIND_B.true

pub returns-else-kind-eq-KIND_B : goal.returns-else-kind-eq-KIND_B
unfolding pilot_for
returns-else-kind-eq-KIND_B c = c.is_plain.ensures ∙ rw (ne_eqb _ 2 c.if-kind-eq-KIND_B.false)
