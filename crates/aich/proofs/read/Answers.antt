-- `aich::read` meets its contract: the indicators are the signs of the sums.
use mathlib.Core.Path.{sym, ap, ◌∙◌}
use lib.ListN.{length}
use Rattle.run.proofs.Answers.{handed, left, written}
use Rattle.run.proofs.Chain.{number_0}
use Rattle.aich.specs.Method.{units_of}
use Rattle.aich.proofs.Laws.{half_length}
use Rattle.aich.proofs.Reading.{given_units}
use Rattle.aich.proofs.Checks.{accepted}
use Rattle.aich.proofs.read.Goals as goal

pub returns-in_err-check_read : goal.returns-in_err-check_read
returns-in_err-check_read c =
    let e = c.in_err-check_read.ensures.verdict_is in
    record { verdict_is = handed _ _ c.from_residual.ensures.1 ∙ e; indicators_is = left _ _ _ e }

pub write_indicators-requires : goal.write_indicators-requires
write_indicators-requires c =
    let summed = c.in_ok-check_read.ensures in
    (ap length summed.sums_are ∙ half_length _, (accepted _ _ (number_0 (sym summed.verdict_is))).head.indicators_ok)

pub returns : goal.returns
returns c =
    let summed = c.in_ok-check_read.ensures in
    let gives = (accepted _ _ (number_0 (sym summed.verdict_is))).gives in
    record {
      verdict_is = summed.verdict_is;
      indicators_is = written _ _ summed.verdict_is (c.write_indicators.ensures ∙ ap units_of summed.sums_are ∙ given_units _ gives);
    }
