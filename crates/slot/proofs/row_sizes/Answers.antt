-- `slot::row_sizes` meets its contract.
use Rattle.slot.proofs.Laws.{sound_row}
use Rattle.slot.proofs.row_sizes.Goals as goal

pub sizes_in-requires : goal.sizes_in-requires
sizes_in-requires c = rw c.format_in.ensures (sound_row _ _)

pub returns : goal.returns
returns c = rw c.format_in.ensures at c.sizes_in.ensures
