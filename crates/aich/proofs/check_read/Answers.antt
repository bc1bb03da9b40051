-- `aich::check_read` meets its contract: both passes find nothing exactly where the indicators of the values give them.
use mathlib.Core.Path.{sym, ap, ◌∙◌}
use lib.Dec.{lit<}
use Rattle.run.proofs.Chain.{number_0, unless_done}
use Rattle.run.proofs.Passing.{all_every}
use Rattle.aich.specs.Method.{Paired, alike, half_of}
use Rattle.aich.proofs.Reading.{units_give}
use Rattle.aich.proofs.Checks.{headed, unlike_stops, unfit_stops, sums_fit, summed_err, head_refuses, values_refuse, values_given}
use Rattle.aich.proofs.check_read.Goals as goal
use Rattle.aich.proofs.check_read.Goals.{In_ok-require}

pub returns-in_err-check_head : goal.returns-in_err-check_head
returns-in_err-check_head c = summed_err _ _ _ _ _ c.from_residual.ensures.1 (head_refuses _ _ _ c.in_err-check_head.ensures)

pub all_alike-requires : goal.all_alike-requires
all_alike-requires c = (headed _ _ (number_0 (sym c.in_ok-check_head.ensures))).values_ok

pub returns-in_err-require : goal.returns-in_err-require
returns-in_err-require c =
    summed_err _ _ _ _ _ c.from_residual-in_err-require.ensures.1
    (values_refuse _ _ c.in_ok-check_head.ensures _ c.in_err-require.ensures (λ e. unlike_stops _ (sym c.all_alike.ensures ∙ e)))

-- pairs that are alike
paired : (c : In_ok-require) → Paired c.args.values.now
paired c =
    record {
      long = (headed _ _ (number_0 (sym c.in_ok-check_head.ensures))).values_ok;
      like = all_every 16 (alike c.args.values.now) (sym c.all_alike.ensures ∙ unless_done _ 10 0 (lit< tt) (number_0 (sym c.in_ok-require.ensures)));
    }

pub find_sums-requires : goal.find_sums-requires
find_sums-requires c = (paired (goal.at.find_sums-requires c).In_ok-require, c.requires)

pub returns-in_err-require-2 : goal.returns-in_err-require-2
returns-in_err-require-2 c =
    summed_err _ _ _ _ _ c.from_residual-in_err-require-2.ensures.1
    (values_refuse _ _ c.in_ok-check_head.ensures _ c.in_err-require-2.ensures (λ e. unfit_stops _ _ c.find_sums.ensures (sym c.all_fit.ensures ∙ e)))

pub returns : goal.returns
returns c =
    let sums = c.find_sums.ensures in
    let like = (paired (goal.at.returns c).In_ok-require).like in
    let fit = sums_fit _ _ sums c.all_fit.ensures (unless_done _ 10 0 (lit< tt) (number_0 (sym c.in_ok-require-2.ensures))) in
    record { verdict_is = values_given _ _ c.in_ok-check_head.ensures (units_give _ like fit); sums_are = sums }
