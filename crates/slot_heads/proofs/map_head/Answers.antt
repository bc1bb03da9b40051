-- `slot_heads::map_head` meets its contract: the lengths are those of one slot's runs.
use mathlib.Core.Path.{◌∙◌}
use Rattle.slot.specs.Outcome.{map_head}
use Rattle.slot_heads.proofs.map_head.Goals as goal

pub returns : goal.returns
unfolding map_head
returns c =
    let s = c.sizes_of-s.ensures in
    c.check_slot_head.ensures ∙ rw (s.data_is, s.tfci_is, s.slot_is)
