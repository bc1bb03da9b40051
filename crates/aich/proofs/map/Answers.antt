-- `aich::map` meets its contract.
use mathlib.Core.Path.{sym, ◌∙◌}
use lib.Dec.{lit≤}
use Rattle.run.proofs.Answers.{handed, left, written}
use Rattle.run.proofs.Chain.{number_0}
use Rattle.aich.proofs.Folding.{sixteen_weaken}
use Rattle.aich.proofs.Checks.{taken}
use Rattle.aich.proofs.map.Goals as goal

pub returns-in_err-check_map : goal.returns-in_err-check_map
returns-in_err-check_map c =
    record { verdict_is = handed _ _ c.from_residual.ensures.1 ∙ c.in_err-check_map.ensures; values_is = left _ _ _ c.in_err-check_map.ensures }

pub write_values-requires : goal.write_values-requires
write_values-requires c =
    let t = taken _ _ (number_0 (sym c.in_ok-check_map.ensures)) in
    (sixteen_weaken (lit≤ tt) t.indicators_ok, t.values_ok)

pub returns : goal.returns
returns c = record { verdict_is = c.in_ok-check_map.ensures; values_is = written _ _ c.in_ok-check_map.ensures c.write_values.ensures }
