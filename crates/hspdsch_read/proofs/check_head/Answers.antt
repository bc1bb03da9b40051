-- `hspdsch_read::check_head` meets its contract.
use mathlib.Core.Path.{◌∙◌}
use Rattle.hspdsch.specs.Outcome.{read_head}
use Rattle.hspdsch_read.proofs.check_head.Goals as goal

pub returns : goal.returns
unfolding read_head
returns c = c.check_frame_head.ensures ∙ rw c.size_of-n.ensures
