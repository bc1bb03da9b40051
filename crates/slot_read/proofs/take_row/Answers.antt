-- `slot_read::take_row` meets its contract.
use mathlib.Core.Path.{sym, ◌∙◌}
use Rattle.dpch.proofs.Exact.{kind_sizes}
use Rattle.slot.proofs.Accept.{sizes_ready}
use Rattle.slot.proofs.Laws.{sound_row}
use Rattle.slot_read.proofs.take_row.Goals as goal

pub take-requires : goal.take-requires
take-requires c =
    let f = c.format_in-f.ensures in
    let h = sizes_ready _ (sound_row _ _) _ _ _ (rw f at (sym c.sizes_are.ensures ∙ c.if-sizes_are.true)) in
    rw f (h.ready, (kind_sizes _ _).has_tpc h.there)

pub returns-then-sizes_are : goal.returns-then-sizes_are
returns-then-sizes_are c =
    let f = c.format_in-f.ensures in
    let e = rw f at (sym c.sizes_are.ensures ∙ c.if-sizes_are.true) in
    let taken = c.take.ensures in
    record { command_is = taken.0 ∙ rw (f, e); data_is = taken.1 ∙ rw (f, e); tfci_is = taken.2 ∙ rw (f, e) }

pub returns-else-sizes_are : goal.returns-else-sizes_are
returns-else-sizes_are c =
    let e = rw c.format_in-f.ensures at (sym c.sizes_are.ensures ∙ c.if-sizes_are.false) in
    record { command_is = rw e; data_is = rw e; tfci_is = rw e }
