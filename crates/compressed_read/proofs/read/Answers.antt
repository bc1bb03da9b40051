-- `compressed_read::read` meets its contract.
use mathlib.Core.Path.{sym, ◌∙◌}
use Rattle.run.proofs.Answers.{handed, left, written}
use Rattle.run.proofs.Chain.{number_0}
use Rattle.compressed.proofs.Accept.{accepted, accepted_bits}
use Rattle.slot.proofs.Laws.{compressed_row}
use Rattle.compressed_read.proofs.read.Goals as goal

pub returns-in_err-check : goal.returns-in_err-check
returns-in_err-check c =
    let e = c.in_err-check.ensures in
    record { verdict_is = handed _ _ c.from_residual.ensures.1 ∙ e; data_is = left _ _ _ e; tfci_is = left _ _ _ e; commands_is = left _ _ _ e }

pub take-requires : goal.take-requires
take-requires c =
    let a = accepted _ _ _ _ _ _ _ (number_0 (sym c.in_ok-check.ensures)) in
    (a.room, accepted_bits _ (compressed_row _ _ a.room.there) _ _ _ _ _ _ a)

pub returns : goal.returns
returns c =
    let e = c.in_ok-check.ensures in
    let t = c.take.ensures in
    record { verdict_is = e; data_is = written _ _ e t.0; tfci_is = written _ _ e t.1; commands_is = written _ _ e t.2 }
