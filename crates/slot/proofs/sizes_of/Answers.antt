-- `slot::sizes_of` meets its contract.
use Rattle.slot.proofs.Laws.{sound_format}
use Rattle.slot.proofs.sizes_of.Goals as goal

pub sizes_in-requires : goal.sizes_in-requires
sizes_in-requires c = rw c.format_of.ensures (sound_format _)

pub returns : goal.returns
returns c = rw c.format_of.ensures at c.sizes_in.ensures
