-- `dpcch::check_map_head` meets its contract: the lengths are those of one slot's runs.
use mathlib.Core.Path.{◌∙◌}
use Rattle.dpcch.specs.Outcome.{map_head}
use Rattle.dpcch.proofs.check_map_head.Goals as goal

pub returns : goal.returns
unfolding map_head
returns c = c.check_slot_head.ensures ∙ rw c.format_of-f.ensures
