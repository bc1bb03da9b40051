-- `slot_fits::fits` meets its contract.
use mathlib.Core.Path.{◌∙◌}
use Rattle.dpch.specs.Compressed.{format_in}
use Rattle.slot.proofs.Laws.{sound_format}
use Rattle.slot_fits.proofs.Laws.{pilot_width}
use Rattle.slot_fits.proofs.fits.Goals as goal

pub is_slot-requires : goal.is_slot-requires
unfolding format_in
is_slot-requires c = rw c.format_of.ensures (sound_format _, pilot_width 0 _)

pub returns : goal.returns
returns c = c.is_slot.ensures ∙ rw c.format_of.ensures
