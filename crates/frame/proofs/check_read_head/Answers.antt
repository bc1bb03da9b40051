-- `frame::check_read_head` meets its contract: the lengths are fifteen times those of one slot's runs.
use mathlib.Core.Path.{◌∙◌}
use Rattle.frame.specs.Outcome.{read_head}
use Rattle.frame.proofs.check_read_head.Goals as goal

pub returns : goal.returns
unfolding read_head
returns c =
    let s = c.sizes_of-s.ensures in
    c.check_frame_head.ensures ∙ rw (s.data_is, s.tfci_is, s.slot_is)
