-- `dpcch_put::put_as` meets its contract.
use mathlib.Core.Path.{sym, ◌∙◌}
use Rattle.dpcch.proofs.Accept.{sizes_ready}
use Rattle.dpcch_put.proofs.put_as.Goals as goal

pub write-requires : goal.write-requires
write-requires c = rw c.format_of.ensures (sizes_ready _ _ _ _ (sym c.sizes_are.ensures ∙ c.if-sizes_are.true)).ready

pub returns-then-sizes_are : goal.returns-then-sizes_are
returns-then-sizes_are c = record { out_is = c.write.ensures ∙ rw (c.format_of.ensures, sym c.sizes_are.ensures ∙ c.if-sizes_are.true) }

pub returns-else-sizes_are : goal.returns-else-sizes_are
returns-else-sizes_are c = record { out_is = rw (sym c.sizes_are.ensures ∙ c.if-sizes_are.false) }
