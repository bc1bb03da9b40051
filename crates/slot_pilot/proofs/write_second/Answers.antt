-- `slot_pilot::write_second` meets its contract: each arm copies the digits of the width that it names.
use lib.ListN.{length}
use native.Mathlib.Omega.{arith}
use mathlib.Core.Path.{◌∙◌}
use borrow.Author.Tests.{ne_eqb}
use Rattle.dpch.specs.SecondPilots.{second_source}
use Rattle.slot_pilot.proofs.write_second.Goals as goal

pub returns-in-2 : goal.returns-in-2
unfolding second_source
returns-in-2 c = c.copy_n.ensures ∙ rw (c.in-2.is, c.pilot_four-two.ensures)

pub returns-in-4 : goal.returns-in-4
unfolding second_source
returns-in-4 c = c.copy_n-in-4.ensures ∙ rw (c.in-4.is, c.pilot_four-four.ensures)

pub returns-in-8 : goal.returns-in-8
unfolding second_source
returns-in-8 c = c.copy_n-in-8.ensures ∙ rw (c.in-8.is, c.pilot_row-eight.ensures)

pub returns-in-16 : goal.returns-in-16
unfolding second_source
returns-in-16 c = c.copy_n-in-16.ensures ∙ rw (c.in-16.is, c.pilot_row-row.ensures)

pub returns-in_default : goal.returns-in_default
unfolding second_source
returns-in_default c =
    c.copy.ensures ∙ rw (ne_eqb (length c.args.dst.now) 2 (λ e. omega arith), ne_eqb (length c.args.dst.now) 4 (λ e. omega arith), c.pilot_row-other.ensures)
