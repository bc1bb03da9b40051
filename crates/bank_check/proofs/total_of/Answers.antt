-- `bank_check::total_of` meets its contract.
use mathlib.Core.Path.{sym, ap, ◌∙◌}
use Rattle.std.specs.Prelude.{Ok}
use Rattle.bank.proofs.Nonzero.{is_none, is_some}
use Rattle.bank.proofs.Told.{ok_total, err_total}
use Rattle.bank_check.proofs.Whole.{bank_none, total_told}
use Rattle.bank_check.proofs.total_of.Goals as goal

pub returns-in-Some : goal.returns-in-Some
returns-in-Some c =
    let e = sym c.is_bank.ensures ∙ c.if-is_bank.true in
    ap (λ n. Ok n) ((is_some (sym c.in-Some.is ∙ c.head_total.ensures)).0 ∙ total_told _ e) ∙ ok_total _ e

pub returns-in_default : goal.returns-in_default
returns-in_default c = err_total _ (sym c.is_bank.ensures ∙ c.if-is_bank.false)

pub returns-in_default-2 : goal.returns-in_default-2
returns-in_default-2 c = err_total _ (bank_none _ (is_none (sym c.in_default.is ∙ c.head_total.ensures)))
