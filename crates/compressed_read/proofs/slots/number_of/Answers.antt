-- `compressed_read::slots::number_of` meets its contract.
use mathlib.Core.Path.{sym}
use native.Mathlib.Omega.{arith}
use Rattle.compressed.proofs.Gap.{number_before, number_behind}
use Rattle.compressed_read.proofs.slots.number_of.Goals as goal

pub overflow_add-result : goal.overflow_add-result
overflow_add-result c = omega (arith, c.requires)

pub returns-then-i-first : goal.returns-then-i-first
returns-then-i-first c = sym (number_before _ _ _ c.if-i-first.true)

pub returns-else-i-first : goal.returns-else-i-first
returns-else-i-first c = sym (number_behind _ _ _ c.if-i-first.false)
