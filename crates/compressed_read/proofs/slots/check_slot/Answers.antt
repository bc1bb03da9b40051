-- `compressed_read::slots::check_slot` meets its contract.
use mathlib.Core.Path.{sym, ◌∙◌}
use Rattle.compressed_read.proofs.slots.check_slot.Goals as goal

pub returns-then-is_missing : goal.returns-then-is_missing
returns-then-is_missing c = c.check_silent.ensures ∙ rw (sym c.is_missing.ensures ∙ c.if-is_missing.true)

pub returns-else-is_missing : goal.returns-else-is_missing
returns-else-is_missing c = c.check_row.ensures ∙ rw (sym c.is_missing.ensures ∙ c.if-is_missing.false)
