-- `sttd_digits::digits` meets its contract.
use mathlib.Core.Path.{sym, ◌∙◌}
use Rattle.run.proofs.Answers.{handed, left, written}
use Rattle.run.proofs.Chain.{number_0}
use Rattle.sttd.proofs.Runs.{digits_taken, encoded_whole}
use Rattle.sttd_digits.proofs.digits.Goals as goal

pub returns-in_err-check : goal.returns-in_err-check
returns-in_err-check c =
    record { verdict_is = handed _ _ c.from_residual.ensures.1 ∙ c.in_err-check.ensures; out_is = left _ _ _ c.in_err-check.ensures }

pub encode_digits-requires : goal.encode_digits-requires
encode_digits-requires c = (digits_taken _ _ (number_0 (sym c.in_ok-check.ensures))).digits_ok

pub returns : goal.returns
returns c =
    let e = c.in_ok-check.ensures in
    let t = digits_taken _ _ (number_0 (sym e)) in
    record { verdict_is = e; out_is = written _ _ e (c.encode_digits.ensures ∙ encoded_whole _ _ t.input_ok t.out_ok) }
