-- `pich::parts` meets its contract.
use native.Mathlib.Omega.{arith}
use borrow.Author.Rules.{scaled_Fits}
use Rattle.pich.proofs.parts.Goals as goal

pub overflow_mul-result : goal.overflow_mul-result
overflow_mul-result c = scaled_Fits _ 145 _ (omega arith) (omega arith)
