-- `pich::first_digit` meets its contract.
use native.Mathlib.Omega.{arith}
use borrow.Author.Tests.{lt-ltb, le-ltb}
use Rattle.pich.specs.Rule.{first_digit}
use Rattle.pich.proofs.Laws.{begins_within}
use Rattle.pich.proofs.first_digit.Goals as goal

pub overflow_mul-result : goal.overflow_mul-result
overflow_mul-result c = omega (arith, begins_within _ _ c.if-q-np.true)

pub returns-then-q-np : goal.returns-then-q-np
unfolding first_digit
returns-then-q-np c = rw (lt-ltb _ _ c.if-q-np.true)

pub returns : goal.returns
unfolding first_digit
returns c = rw (le-ltb _ _ c.if-q-np.false)
