-- `slot_pilot::write_plain` meets its contract: each arm copies the digits of the width that it names.
use native.Mathlib.Omega.{arith}
use lib.ListN.{length}
use mathlib.Core.Path.{◌∙◌}
use borrow.Author.Tests.{ne_eqb}
use Rattle.dpch.specs.Pilots.{pilot_source}
use Rattle.slot_pilot.proofs.write_plain.Goals as goal

pub returns-in-2 : goal.returns-in-2
unfolding pilot_source
returns-in-2 c = c.copy_n.ensures ∙ rw (c.in-2.is, c.pilot_row-row.ensures)

pub returns-in-4 : goal.returns-in-4
unfolding pilot_source
returns-in-4 c = c.copy_n-in-4.ensures ∙ rw (c.in-4.is, c.pilot_row-row.ensures)

pub returns-in-8 : goal.returns-in-8
unfolding pilot_source
returns-in-8 c = c.copy_n-in-8.ensures ∙ rw (c.in-8.is, c.pilot_row-row.ensures)

pub returns-in-16 : goal.returns-in-16
unfolding pilot_source
returns-in-16 c = c.copy_n-in-16.ensures ∙ rw (c.in-16.is, c.pilot_row-row.ensures)

pub returns-in_default : goal.returns-in_default
unfolding pilot_source
returns-in_default c = c.copy.ensures ∙ rw (ne_eqb (length c.args.dst.now) 2 (λ e. omega arith), c.pilot_row-other.ensures)
