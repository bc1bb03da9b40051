-- `aich::read_available` meets its contract: the base's checks, then the set, and then the base's own writer.
use mathlib.Core.Path.{sym, ap, ◌∙◌}
use lib.ListN.{length}
use Rattle.run.proofs.Answers.{handed, left, written, stops, goes_on}
use Rattle.run.proofs.Chain.{number_0}
use Rattle.aich.specs.Outcome.{set_verdict, read_available_verdict}
use Rattle.aich.specs.Method.{units_of}
use Rattle.aich.proofs.Laws.{half_length}
use Rattle.aich.proofs.Reading.{given_units}
use Rattle.aich.proofs.Checks.{accepted}
use Rattle.aich.proofs.Available.{asked}
use Rattle.aich.proofs.read_available.Goals as goal

pub returns-in_err-check_read : goal.returns-in_err-check_read
unfolding read_available_verdict
returns-in_err-check_read c =
    let e = stops _ _ _ c.from_residual.ensures.1 c.in_err-check_read.ensures.verdict_is in
    record { verdict_is = e; indicators_is = left c.in_err-check_read.field-0.0 _ _ (sym (handed _ _ c.from_residual.ensures.1) ∙ e) }

pub check-requires : goal.check-requires
check-requires c = ap length c.in_ok-check_read.ensures.sums_are ∙ half_length _

pub returns-in_err-check : goal.returns-in_err-check
unfolding read_available_verdict
returns-in_err-check c =
    let summed = c.in_ok-check_read.ensures in
    let gives = (accepted _ _ (number_0 (sym summed.verdict_is))).gives in
    let e = goes_on summed.verdict_is (c.in_err-check.ensures ∙ ap (set_verdict c.args.available) summed.sums_are ∙ asked _ _ gives) in
    record { verdict_is = handed _ _ c.from_residual-in_err-check.ensures.1 ∙ e; indicators_is = left _ _ _ e }

pub write_indicators-requires : goal.write_indicators-requires
write_indicators-requires c =
    let summed = c.in_ok-check_read.ensures in
    (ap length summed.sums_are ∙ half_length _, (accepted _ _ (number_0 (sym summed.verdict_is))).head.indicators_ok)

pub returns : goal.returns
unfolding read_available_verdict
returns c =
    let summed = c.in_ok-check_read.ensures in
    let gives = (accepted _ _ (number_0 (sym summed.verdict_is))).gives in
    let e = goes_on summed.verdict_is (c.in_ok-check.ensures ∙ ap (set_verdict c.args.available) summed.sums_are ∙ asked _ _ gives) in
    record { verdict_is = e; indicators_is = written _ _ e (c.write_indicators.ensures ∙ ap units_of summed.sums_are ∙ given_units _ gives) }
