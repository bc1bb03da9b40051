-- `pich_map::map` meets its contract.
use mathlib.Core.Path.{sym, ◌∙◌}
use Rattle.run.proofs.Answers.{handed, left, written}
use Rattle.run.proofs.Chain.{number_0}
use Rattle.pich.proofs.Laws.{taken}
use Rattle.pich_map.proofs.map.Goals as goal

pub returns-in_err-check : goal.returns-in_err-check
returns-in_err-check c =
    record { verdict_is = handed _ _ c.from_residual.ensures.1 ∙ c.in_err-check.ensures; frame_is = left _ _ _ c.in_err-check.ensures }

pub write_by_np-requires : goal.write_by_np-requires
write_by_np-requires c =
    let t = taken _ _ _ (number_0 (sym c.in_ok-check.ensures)) in
    (t.np_ok, t.indicators_ok, t.frame_ok)

pub returns : goal.returns
returns c = record { verdict_is = c.in_ok-check.ensures; frame_is = written _ _ c.in_ok-check.ensures c.write_by_np.ensures }
