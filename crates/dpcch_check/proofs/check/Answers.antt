-- `dpcch_check::check` meets its contract.
use mathlib.Core.Path.{sym, ◌∙◌}
use borrow.Author.Tests.{eqb-true}
use lib.Dec.{lit<}
use Rattle.run.proofs.Answers.{stops, goes_on}
use Rattle.run.proofs.Chain.{number_0, unless_done}
use Rattle.dpcch.specs.Outcome.{part_verdict}
use Rattle.dpcch.proofs.Laws.{sound_format}
use Rattle.dpcch_check.proofs.check.Goals as goal

pub returns-in_err-require : goal.returns-in_err-require
unfolding part_verdict
returns-in_err-require c = stops _ _ _ c.from_residual.ensures.1 (c.in_err-require.ensures ∙ rw c.format_of-f.ensures)

pub check-requires : goal.check-requires
check-requires c =
    let right = eqb-true _ _ (unless_done _ 3 0 (lit< tt) (number_0 (sym c.in_ok-require.ensures))) in
    rw c.format_of-f.ensures (record { sound = sound_format _; slot_ok = rw c.format_of-f.ensures at right })

pub returns : goal.returns
unfolding part_verdict
returns c = goes_on (c.in_ok-require.ensures ∙ rw c.format_of-f.ensures) (c.check.ensures ∙ rw c.format_of-f.ensures)
