-- `dpcch_map::map` meets its contract.
use mathlib.Core.Path.{sym, ◌∙◌}
use native.Mathlib.Omega.{arith}
use Rattle.run.proofs.Answers.{handed, left, written}
use Rattle.run.proofs.Chain.{number_0}
use Rattle.dpcch.proofs.Accept.{mapped, sizes_pass}
use Rattle.dpcch_map.proofs.map.Goals as goal

pub returns-in_err-check : goal.returns-in_err-check
returns-in_err-check c = record { verdict_is = handed _ _ c.from_residual.ensures.1 ∙ c.in_err-check.ensures; out_is = left _ _ _ c.in_err-check.ensures }

pub overflow_cast-tpc : goal.overflow_cast-tpc
overflow_cast-tpc c =
    let m = mapped _ _ _ _ _ _ (number_0 (sym c.in_ok-check.ensures)) in
    omega (arith, m.fields.tpc_ok)

pub returns : goal.returns
returns c =
    let h = (mapped _ _ _ _ _ _ (number_0 (sym c.in_ok-check.ensures))).head in
    record {
      verdict_is = c.in_ok-check.ensures;
      out_is = written _ _ c.in_ok-check.ensures (c.put.ensures.out_is ∙ rw (sizes_pass _ _ _ _ h.format_ok h.ready));
    }
