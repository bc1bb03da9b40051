-- `dpcch_read::take_as` meets its contract.
use mathlib.Core.Path.{sym, ◌∙◌}
use native.Mathlib.Omega.{arith}
use Rattle.dpch.proofs.Exact.{dpcch_formats_lem}
use Rattle.dpcch.proofs.Accept.{sizes_ready}
use Rattle.dpcch_read.proofs.take_as.Goals as goal

pub returns-then-not-sizes_are : goal.returns-then-not-sizes_are
returns-then-not-sizes_are c =
    let n = sym c.sizes_are.ensures ∙ c.if-not-sizes_are.true in
    record { command_is = rw n; tfci_is = rw n; fbi_is = rw n }

pub take-requires : goal.take-requires
take-requires c =
    rw c.format_of-f.ensures
    (sizes_ready _ _ _ _ (sym c.sizes_are.ensures ∙ c.if-not-sizes_are.false)).ready

pub command-requires : goal.command-requires
command-requires c =
    let h = sizes_ready _ _ _ _ (sym c.sizes_are.ensures ∙ c.if-not-sizes_are.false) in
    rw c.format_of-f.ensures
    (record { sound = h.ready.sound; slot_ok = h.ready.slot_ok }, (let two = (dpcch_formats_lem _).two_tpc h.format_ok in omega arith))

pub returns : goal.returns
returns c =
    let sized = sym c.sizes_are.ensures ∙ c.if-not-sizes_are.false in
    let f = c.format_of-f.ensures in
    record {
      command_is = c.command.ensures ∙ rw (f, sized);
      tfci_is = c.take.ensures.0 ∙ rw (f, sized);
      fbi_is = c.take.ensures.1 ∙ rw (f, sized);
    }
