-- `dpcch_frame_read::check_head` meets its contract: the lengths are fifteen times those of one slot's runs.
use mathlib.Core.Path.{◌∙◌}
use native.Mathlib.Omega.{arith}
use Rattle.dpcch.specs.Outcome.{frame_read_head}
use Rattle.dpcch.proofs.Laws.{sizes}
use Rattle.dpcch_frame_read.proofs.check_head.Goals as goal

pub overflow_mul-right : goal.overflow_mul-right
overflow_mul-right c = omega (arith, sizes _ _ c.format_of-f.ensures)

pub overflow_mul-right-2 : goal.overflow_mul-right-2
overflow_mul-right-2 c = omega (arith, sizes _ _ c.format_of-f.ensures)

pub overflow_mul-right-3 : goal.overflow_mul-right-3
overflow_mul-right-3 c = omega (arith, sizes _ _ c.format_of-f.ensures)

pub returns : goal.returns
unfolding frame_read_head
returns c = c.check_frame_head.ensures ∙ rw c.format_of-f.ensures
