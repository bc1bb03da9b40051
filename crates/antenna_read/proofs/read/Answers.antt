-- `antenna_read::read` meets its contract.
use mathlib.Core.Path.{sym, ◌∙◌}
use Rattle.run.proofs.Answers.{handed, left}
use Rattle.run.proofs.Chain.{leaves_done, number_0}
use Rattle.slot.proofs.Answers.{no_value}
use Rattle.slot.proofs.Accept.{read_head_pass}
use Rattle.antenna.proofs.Checks.{accepted}
use Rattle.antenna_read.proofs.read.Goals as goal

pub returns-in_err-check : goal.returns-in_err-check
returns-in_err-check c =
    let told = handed _ _ c.from_residual.ensures.1 in
    let e = c.in_err-check.ensures in
    record { verdict_is = told ∙ e; command_is = no_value _ _ c.from_residual.ensures.1 ∙ left _ _ _ e; data_is = left _ _ _ e; tfci_is = left _ _ _ e }

pub returns : goal.returns
returns c =
    let e = c.in_ok-check.ensures in
    let z = number_0 (sym e) in
    let t = c.take.ensures in
    let a = (accepted _ _ _ _ _ _ z).head in
    let p = read_head_pass _ _ _ _ _ a.format_ok a.slot_ok a.first_ok a.data_ok a.tfci_ok in
    let h = number_0 p in
    record {
      verdict_is = t.verdict_is ∙ p ∙ e;
      command_is = t.command_is ∙ leaves_done _ _ _ h ∙ sym (leaves_done _ _ _ z);
      data_is = t.data_is ∙ leaves_done _ _ _ h ∙ sym (leaves_done _ _ _ z);
      tfci_is = t.tfci_is ∙ leaves_done _ _ _ h ∙ sym (leaves_done _ _ _ z);
    }
