-- `slot_check::check_row` meets its contract.
use mathlib.Core.Path.{◌∙◌}
use Rattle.dpch.specs.Compressed.{format_in}
use Rattle.slot.proofs.Laws.{sound_row}
use Rattle.slot_fits.proofs.Laws.{fits_anywhere}
use Rattle.slot_check.proofs.check_row.Goals as goal

pub returns-then-row_fits : goal.returns-then-row_fits
returns-then-row_fits c =
    let a = c.args in
    fits_anywhere (format_in a.kind a.format) a.slot a.xs.now a.base c.row_fits.ensures c.if-row_fits.true

pub check-requires : goal.check-requires
check-requires c = rw c.format_in.ensures (sound_row _ _)

pub returns : goal.returns
returns c = c.check.ensures ∙ rw c.format_in.ensures
