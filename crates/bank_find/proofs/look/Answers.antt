-- `bank_find::look` meets its contract.
use mathlib.Core.Path.{ap, ◌∙◌}
use Rattle.std.specs.Prelude.{Err}
use Rattle.bank.proofs.Told.{total_ok, total_err, err_is, ok_looked, err_looked}
use Rattle.bank_find.proofs.look.Goals as goal

pub start_of-start-requires : goal.start_of-start-requires
start_of-start-requires c = total_ok _ c.in_ok-total.ensures

pub returns-in_err-total : goal.returns-in_err-total
returns-in_err-total c =
    let t = total_err _ c.in_err-total.ensures in
    err_is _ c.from_residual.ensures.1 ∙ ap (λ y. Err y) t.1 ∙ err_looked _ _ t.0

pub returns : goal.returns
returns c = let t = total_ok _ c.in_ok-total.ensures in ok_looked _ _ t.0 t.1 c.start_of-start.ensures
