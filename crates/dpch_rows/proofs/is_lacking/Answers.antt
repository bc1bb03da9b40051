-- `dpch_rows::is_lacking` meets its contract.
use borrow.Author.Tests.{ne_eqb}
use Rattle.dpch_rows.proofs.is_lacking.Goals as goal

pub returns-then-kind-eq-KIND_A : goal.returns-then-kind-eq-KIND_A
returns-then-kind-eq-KIND_A c = rw c.if-kind-eq-KIND_A.true

pub returns-else-kind-eq-KIND_A : goal.returns-else-kind-eq-KIND_A
returns-else-kind-eq-KIND_A c = rw (ne_eqb _ 1 c.if-kind-eq-KIND_A.false)
