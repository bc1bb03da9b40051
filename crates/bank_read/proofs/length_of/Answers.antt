-- `bank_read::length_of` meets its contract.
use mathlib.Core.Path.{sym, ◌∙◌}
use Rattle.run.proofs.Answers.{handed, left, written}
use Rattle.run.proofs.Chain.{number_0}
use Rattle.bank.proofs.Calls.{drop_done, found_length}
use Rattle.bank.proofs.Told.{counted_err}
use Rattle.bank_read.proofs.length_of.Goals as goal

pub returns-in_err-found : goal.returns-in_err-found
returns-in_err-found c =
    let v = c.in_err-found.ensures.verdict_is in
    record { verdict_is = handed _ _ c.from_residual.ensures.1 ∙ v; count_is = counted_err _ _ _ c.from_residual.ensures.1 v }

pub returns : goal.returns
returns c =
    let f = c.in_ok-found.ensures in
    record { verdict_is = f.verdict_is; count_is = written _ _ f.verdict_is (found_length _ _ _ f (drop_done _ _ (number_0 (sym f.verdict_is))).bank) }
