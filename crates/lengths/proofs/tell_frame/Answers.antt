-- `lengths::tell_frame` meets its contract: no product is long.
use native.Mathlib.Omega.{arith}
use Rattle.compressed.proofs.Gap.{small_product}
use Rattle.lengths.proofs.tell_frame.Goals as goal

pub overflow_mul-sent : goal.overflow_mul-sent
overflow_mul-sent c = let p = c.requires in omega (arith, small_product _ _ p.0 p.1)

pub overflow_mul-sent-2 : goal.overflow_mul-sent-2
overflow_mul-sent-2 c = let p = c.requires in omega (arith, small_product _ _ p.0 p.2)
