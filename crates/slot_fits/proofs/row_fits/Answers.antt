-- `slot_fits::row_fits` meets its contract.
use mathlib.Core.Path.{◌∙◌}
use Rattle.slot.proofs.Laws.{sound_row}
use Rattle.slot_fits.proofs.Laws.{pilot_width}
use Rattle.slot_fits.proofs.row_fits.Goals as goal

pub is_slot-requires : goal.is_slot-requires
is_slot-requires c = rw c.format_in.ensures (sound_row _ _, pilot_width _ _)

pub returns : goal.returns
returns c = c.is_slot.ensures ∙ rw c.format_in.ensures
