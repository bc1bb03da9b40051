-- `antenna_read::check_head` meets its contract.
use mathlib.Core.Path.{◌∙◌}
use Rattle.antenna.specs.Outcome.{read_head}
use Rattle.antenna_read.proofs.check_head.Goals as goal

pub returns : goal.returns
unfolding read_head
returns c =
    let s = c.sizes_of-s.ensures in
    c.check_slot_head.ensures ∙ rw (s.slot_is, s.data_is, s.tfci_is)
