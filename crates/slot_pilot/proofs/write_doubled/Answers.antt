-- `slot_pilot::write_doubled` meets its contract: each arm copies the digits of the width that it names.
use native.Mathlib.Omega.{arith}
use lib.ListN.{length}
use mathlib.Core.Path.{◌∙◌}
use borrow.Author.Tests.{ne_eqb}
use Rattle.dpch.specs.Compressed.{source_for}
use Rattle.slot_pilot.proofs.write_doubled.Goals as goal

pub returns-in-4 : goal.returns-in-4
unfolding source_for
returns-in-4 c = c.copy_n.ensures ∙ rw (c.in-4.is, c.doubled_row-row.ensures)

pub returns-in-8 : goal.returns-in-8
unfolding source_for
returns-in-8 c = c.copy_n-in-8.ensures ∙ rw (c.in-8.is, c.doubled_row-row.ensures)

pub returns-in-16 : goal.returns-in-16
unfolding source_for
returns-in-16 c = c.copy_n-in-16.ensures ∙ rw (c.in-16.is, c.doubled_row-row.ensures)

pub returns-in-32 : goal.returns-in-32
unfolding source_for
returns-in-32 c = c.copy_n-in-32.ensures ∙ rw (c.in-32.is, c.doubled_row-row.ensures)

pub returns-in_default : goal.returns-in_default
unfolding source_for
returns-in_default c = c.copy.ensures ∙ rw (ne_eqb (length c.args.dst.now) 4 (λ e. omega arith), c.doubled_row-other.ensures)
