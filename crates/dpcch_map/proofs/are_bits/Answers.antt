-- `dpcch_map::are_bits` meets its contract: no digit at all, or a short run that says of itself that it is bits.
use mathlib.Core.Path.{sym, ◌∙◌}
use native.Mathlib.Omega.{arith}
use borrow.Author.Tests.{eqb-true}
use Rattle.dpdch.proofs.Laws.{few_bits}
use Rattle.dpcch_map.proofs.are_bits.Goals as goal
use Rattle.dpcch_map.proofs.are_bits.Goals.{then-is_empty, else-is_empty}

pub returns-then-are_few_bits : goal.returns-then-are_few_bits
returns-then-are_few_bits c h = elim c.if-is_empty.branch [
  | then-is_empty w ↦ λ k l. let z = eqb-true _ _ (sym c.is_empty.ensures ∙ w.if-is_empty.true) in absurd (omega arith)
  | else-is_empty w ↦ few_bits _ 1 w.are_few_bits.ensures (sym w.value-is ∙ h)
]

pub returns-else-are_few_bits : goal.returns-else-are_few_bits
returns-else-are_few_bits c = few_bits _ 2 c.are_few_bits-else-are_few_bits.ensures
