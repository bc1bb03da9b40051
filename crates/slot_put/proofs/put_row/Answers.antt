-- `slot_put::put_row` meets its contract.
use mathlib.Core.Path.{sym, ◌∙◌}
use mathlib.Core.Bool.{true, false}
use Rattle.slot.proofs.Accept.{sizes_ready}
use Rattle.slot.proofs.Laws.{sound_row}
use Rattle.slot_put.proofs.put_row.Goals as goal

pub write-requires : goal.write-requires
write-requires c =
    let f = c.format_in-f.ensures in
    rw f (sizes_ready _ (sound_row _ _) _ _ _ (rw f at (sym c.sizes_are.ensures ∙ c.if-sizes_are.true))).ready

pub returns-then-sizes_are : goal.returns-then-sizes_are
returns-then-sizes_are c =
    let f = c.format_in-f.ensures in
    let e = rw f at (sym c.sizes_are.ensures ∙ c.if-sizes_are.true) in
    record { out_is = c.write.ensures ∙ rw (f, e) }

pub returns-else-sizes_are : goal.returns-else-sizes_are
returns-else-sizes_are c =
    let e = rw c.format_in-f.ensures at (sym c.sizes_are.ensures ∙ c.if-sizes_are.false) in
    record { out_is = rw e }
