-- `dpcch_read::check_head` meets its contract: the lengths are those of one slot's runs.
use mathlib.Core.Path.{◌∙◌}
use Rattle.dpcch.specs.Outcome.{read_head}
use Rattle.dpcch_read.proofs.check_head.Goals as goal

pub returns : goal.returns
unfolding read_head
returns c = c.check_slot_head.ensures ∙ rw c.format_of-f.ensures
