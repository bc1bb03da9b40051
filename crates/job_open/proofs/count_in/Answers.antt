-- `job_open::count_in` meets its contract: the high byte is first.
use mathlib.Core.Path.{sym, ◌∙◌}
use Rattle.job_open.proofs.Laws.{count_first, count_second}
use Rattle.job_open.proofs.count_in.Goals as goal

pub returns-then-version-eq1 : goal.returns-then-version-eq1
returns-then-version-eq1 c = c.byte_at-first.ensures ∙ sym (count_first _ _ c.if-version-eq1.true)

pub returns : goal.returns
returns c = rw (count_second _ _ c.if-version-eq1.false, c.byte_at-second.ensures, c.byte_at-first.ensures)
