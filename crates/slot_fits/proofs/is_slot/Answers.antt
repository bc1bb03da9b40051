-- `slot_fits::is_slot` meets its contract.
use mathlib.Core.Path.{sym, ap, ◌∙◌}
use borrow.Author.Tests.{ne_eqb}
use lib.Dec.{eqb}
use Rattle.run.specs.Verdict.{Verdict}
use Rattle.run.specs.Verdicts.{or_else, unless}
use Rattle.slot.specs.Outcome.{part_verdict}
use Rattle.slot.proofs.Laws.{part_whole}
use Rattle.slot_fits.proofs.is_slot.Goals as goal

pub returns-then-xs-f : goal.returns-then-xs-f
unfolding part_verdict or_else unless
returns-then-xs-f c = rw (ne_eqb _ _ c.if-xs-f.true)

pub fields_fit-requires : goal.fields_fit-requires
fields_fit-requires c = (record { sound = c.requires.0; slot_ok = c.if-xs-f.false }, c.requires.1)

pub returns : goal.returns
returns c = c.fields_fit.ensures ∙ sym (ap (λ (v : Verdict). eqb v.number 0) (part_whole _ _ _ 0 c.if-xs-f.false))
