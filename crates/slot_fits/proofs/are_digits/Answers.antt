-- `slot_fits::are_digits` meets its contract: each arm looks at as many digits as it names.
use mathlib.Core.Path.{◌∙◌}
use Rattle.slot_fits.proofs.Laws.{none_above}
use Rattle.slot_fits.proofs.are_digits.Goals as goal

pub returns-in-40 : goal.returns-in-40
returns-in-40 c = c.all_at_most.ensures ∙ rw c.in-40.is

pub returns-in-80 : goal.returns-in-80
returns-in-80 c = c.all_at_most-in-80.ensures ∙ rw c.in-80.is

pub returns-in_default : goal.returns-in_default
returns-in_default c = none_above _ c.is_none.ensures c.above.ensures
