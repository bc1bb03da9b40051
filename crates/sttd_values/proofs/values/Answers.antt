-- `sttd_values::values` meets its contract.
use mathlib.Core.Path.{sym, ◌∙◌}
use Rattle.run.proofs.Answers.{handed, left, written}
use Rattle.run.proofs.Chain.{number_0}
use Rattle.sttd.proofs.Runs.{values_taken}
use Rattle.sttd_values.proofs.values.Goals as goal

pub returns-in_err-check : goal.returns-in_err-check
returns-in_err-check c =
    record { verdict_is = handed _ _ c.from_residual.ensures.1 ∙ c.in_err-check.ensures; out_is = left _ _ _ c.in_err-check.ensures }

pub encode_values-requires : goal.encode_values-requires
encode_values-requires c =
    let t = values_taken _ _ (number_0 (sym c.in_ok-check.ensures)) in
    (t.input_ok, t.out_ok, rw t.input_ok at t.range_ok)

pub returns : goal.returns
returns c =
    record { verdict_is = c.in_ok-check.ensures; out_is = written _ _ c.in_ok-check.ensures c.encode_values.ensures }
