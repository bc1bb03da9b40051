-- `pich_read::read_checked` meets its contract.
use mathlib.Core.Path.{sym, ◌∙◌}
use Rattle.run.proofs.Answers.{handed, left, written}
use Rattle.run.proofs.Chain.{number_0}
use Rattle.pich.proofs.Laws.{accepted}
use Rattle.pich_read.proofs.read_checked.Goals as goal

pub returns-in_err-check : goal.returns-in_err-check
returns-in_err-check c =
    record { verdict_is = handed _ _ c.from_residual.ensures.1 ∙ c.in_err-check.ensures; indicators_is = left _ _ _ c.in_err-check.ensures }

pub read_indicators-requires : goal.read_indicators-requires
read_indicators-requires c =
    let h = (accepted _ _ _ (number_0 (sym c.in_ok-check.ensures))).head in
    (h.np_ok, h.frame_ok, h.indicators_ok)

pub returns : goal.returns
returns c = record { verdict_is = c.in_ok-check.ensures; indicators_is = written _ _ c.in_ok-check.ensures c.read_indicators.ensures }
