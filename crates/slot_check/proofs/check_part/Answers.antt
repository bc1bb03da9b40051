-- `slot_check::check_part` meets its contract.
use mathlib.Core.Path.{◌∙◌}
use Rattle.dpch.specs.Formats.{format_of}
use Rattle.slot.proofs.Laws.{sound_format}
use Rattle.slot_fits.proofs.Laws.{fits_anywhere}
use Rattle.slot_check.proofs.check_part.Goals as goal

pub returns-then-fits : goal.returns-then-fits
returns-then-fits c =
    let a = c.args in
    fits_anywhere (format_of a.format) a.slot a.xs.now a.base c.fits.ensures c.if-fits.true

pub check-requires : goal.check-requires
check-requires c = rw c.format_of.ensures (sound_format _)

pub returns : goal.returns
returns c = c.check.ensures ∙ rw c.format_of.ensures
