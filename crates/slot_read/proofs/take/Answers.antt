-- `slot_read::take` meets its contract.
use mathlib.Core.Path.{sym, ◌∙◌}
use native.Mathlib.Omega.{arith}
use Rattle.run.proofs.Answers.{handed, left, written}
use Rattle.run.proofs.Chain.{number_0}
use Rattle.dpch.proofs.Exact.{format_sizes}
use Rattle.slot.proofs.Answers.{no_value}
use Rattle.slot.proofs.Accept.{read_headed}
use Rattle.slot_read.proofs.take.Goals as goal

pub returns-in_err-read_head : goal.returns-in_err-read_head
returns-in_err-read_head c =
    let e = c.in_err-read_head.ensures in
    record { verdict_is = handed _ _ c.from_residual.ensures.1 ∙ e; command_is = no_value _ _ c.from_residual.ensures.1 ∙ left _ _ _ e; data_is = left _ _ _ e; tfci_is = left _ _ _ e }

pub take-requires : goal.take-requires
take-requires c =
    let h = read_headed _ _ _ _ _ (number_0 (sym c.in_ok-read_head.ensures)) in
    rw c.format_of.ensures (h.ready, (format_sizes _).has_tpc (omega (arith, h.format_ok)))

pub returns : goal.returns
returns c =
    let e = c.in_ok-read_head.ensures in
    let f = c.format_of.ensures in
    let t = c.take.ensures in
    record { verdict_is = e; command_is = written _ _ e (t.0 ∙ rw f); data_is = written _ _ e (t.1 ∙ rw f); tfci_is = written _ _ e (t.2 ∙ rw f) }
