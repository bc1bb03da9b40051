-- `aich::map_available` meets its contract: the base's checks, then the set, and then the base's own writer.
use mathlib.Core.Path.{sym, ◌∙◌}
use lib.Dec.{lit≤}
use Rattle.run.proofs.Answers.{handed, left, written, stops, goes_on}
use Rattle.run.proofs.Chain.{number_0}
use Rattle.aich.specs.Outcome.{map_available_verdict}
use Rattle.aich.proofs.Folding.{sixteen_weaken}
use Rattle.aich.proofs.Checks.{taken}
use Rattle.aich.proofs.map_available.Goals as goal

pub returns-in_err-check_map : goal.returns-in_err-check_map
unfolding map_available_verdict
returns-in_err-check_map c =
    let e = stops _ _ _ c.from_residual.ensures.1 c.in_err-check_map.ensures in
    record { verdict_is = e; values_is = left c.in_err-check_map.field-0.0 _ _ (sym (handed _ _ c.from_residual.ensures.1) ∙ e) }

pub check-requires : goal.check-requires
check-requires c = (taken _ _ (number_0 (sym c.in_ok-check_map.ensures))).indicators_ok.long

pub returns-in_err-check : goal.returns-in_err-check
unfolding map_available_verdict
returns-in_err-check c =
    let e = goes_on c.in_ok-check_map.ensures c.in_err-check.ensures in
    record { verdict_is = handed _ _ c.from_residual-in_err-check.ensures.1 ∙ e; values_is = left _ _ _ e }

pub write_values-requires : goal.write_values-requires
write_values-requires c =
    let t = taken _ _ (number_0 (sym c.in_ok-check_map.ensures)) in
    (sixteen_weaken (lit≤ tt) t.indicators_ok, t.values_ok)

pub returns : goal.returns
unfolding map_available_verdict
returns c =
    let e = goes_on c.in_ok-check_map.ensures c.in_ok-check.ensures in
    record { verdict_is = e; values_is = written _ _ e c.write_values.ensures }
