-- `dpcch_read::read` meets its contract.
use mathlib.Core.Path.{◌≡◌, refl, sym, ◌∙◌}
use mathlib.Core.Bool.{false≢true}
use Prim.Native.Nat.{ℕ}
use Rattle.std.specs.Prelude.{Result, Ok, Err}
use Rattle.std.specs.Result.{IsErr}
use Rattle.run.specs.declared.refusal.Refusal.{Refusal}
use Rattle.run.specs.Answers.{value_of}
use Rattle.run.proofs.Answers.{handed, left, written}
use Rattle.run.proofs.Chain.{number_0}
use Rattle.dpcch.proofs.Accept.{accepted, sizes_pass}
use Rattle.dpcch_read.proofs.read.Goals as goal

no_value : (r : Result ℕ Refusal) → IsErr r → value_of r ≡ 0
no_value (Ok value) h = absurd (false≢true h)
no_value (Err refusal) h = refl

pub returns-in_err-check : goal.returns-in_err-check
returns-in_err-check c =
    let e = c.in_err-check.ensures in
    record { verdict_is = handed _ _ c.from_residual.ensures.1 ∙ e; command_is = no_value _ c.from_residual.ensures.0 ∙ left _ _ _ e; tfci_is = left _ _ _ e; fbi_is = left _ _ _ e }

pub returns : goal.returns
returns c =
    let e = c.in_ok-check.ensures in
    let h = (accepted _ _ _ _ _ (number_0 (sym e))).head in
    let t = c.take.ensures in
    let sized = sizes_pass _ _ _ _ h.format_ok h.ready in
    record {
      verdict_is = e;
      command_is = written _ _ e (t.command_is ∙ rw sized);
      tfci_is = written _ _ e (t.tfci_is ∙ rw sized);
      fbi_is = written _ _ e (t.fbi_is ∙ rw sized);
    }
