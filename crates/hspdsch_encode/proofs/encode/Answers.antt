-- `hspdsch_encode::encode` meets its contract: the encoder of the format, over runs of one length of whole eights.
use mathlib.Core.Path.{◌∙◌}
use borrow.Author.Tests.{eq-eqb, ne_eqb}
use Rattle.hspdsch.specs.Rule.{coded}
use Rattle.hspdsch.specs.Outcome.{encoded_over}
use Rattle.hspdsch_encode.proofs.encode.Goals as goal
use Rattle.hspdsch_encode.proofs.encode.Goals.{then-input-ne0-via-then-input-ne0, then-input-ne0-via-else-input-ne0+then-out-input}

pub returns-then-input-ne0 : goal.returns-then-input-ne0
unfolding encoded_over
returns-then-input-ne0 c =
    elim c.then-input-ne0.branch [ then-input-ne0-via-then-input-ne0 w ↦ rw (ne_eqb _ _ w.if-input-ne0.true) | then-input-ne0-via-else-input-ne0+then-out-input w ↦ rw (eq-eqb _ _ w.if-input-ne0.false, ne_eqb _ _ w.if-out-input.true) ]

pub returns-then-format-eq0 : goal.returns-then-format-eq0
unfolding encoded_over coded
returns-then-format-eq0 c =
    c.encode_all.ensures ∙ rw (eq-eqb _ _ c.if-input-ne0.false, eq-eqb _ _ c.if-out-input.false, eq-eqb _ _ c.if-format-eq0.true)

pub returns-else-format-eq0 : goal.returns-else-format-eq0
unfolding encoded_over coded
returns-else-format-eq0 c =
    c.encode_all-else-format-eq0.ensures ∙ rw (eq-eqb _ _ c.if-input-ne0.false, eq-eqb _ _ c.if-out-input.false, ne_eqb _ _ c.if-format-eq0.false)
