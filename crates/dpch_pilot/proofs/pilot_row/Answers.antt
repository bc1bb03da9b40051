-- `dpch_pilot::pilot_row` meets its contract: antenna 1's table or antenna 2's.
use mathlib.Core.Path.{◌∙◌}
use borrow.Author.Tests.{eq-eqb, ne_eqb}
use Rattle.dpch_pilot.proofs.pilot_row.Goals as goal

pub returns-then-antenna-eq0 : goal.returns-then-antenna-eq0
returns-then-antenna-eq0 c = c.first_row.ensures ∙ rw (eq-eqb _ 0 c.if-antenna-eq0.true)

pub returns : goal.returns
returns c = c.second_row.ensures ∙ rw (ne_eqb _ 0 c.if-antenna-eq0.false)
