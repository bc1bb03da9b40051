-- `combiner::combine` meets its contract: the gains are small enough for 16 bits.
use mathlib.Core.Path.{sym, ap, ◌∙◌}
use lib.ListN.{length}
use Rattle.run.proofs.Answers.{handed, stops, goes_on, left, written}
use Rattle.run.proofs.Chain.{number_0}
use Rattle.correlator.specs.Rule.{numbers_of}
use Rattle.correlator.proofs.Combining.{numbers_length}
use Rattle.combiner.specs.Outcome.{combine_verdict}
use Rattle.combiner.proofs.Checks.{headed, taken}
use Rattle.combiner.proofs.combine.Goals as goal

pub returns-in_err-check_head : goal.returns-in_err-check_head
unfolding combine_verdict
returns-in_err-check_head c =
    let e = stops _ _ _ c.from_residual.ensures.1 c.in_err-check_head.ensures in
    record { verdict_is = e; results_is = left c.in_err-check_head.field-0.0 _ _ (sym (handed _ _ c.from_residual.ensures.1) ∙ e) }

pub check_body-requires : goal.check_body-requires
check_body-requires c = (headed _ _ (number_0 (sym c.in_ok-check_head.ensures))).received_ok

pub returns-in_err-check_body : goal.returns-in_err-check_body
unfolding combine_verdict
returns-in_err-check_body c =
    let e = goes_on c.in_ok-check_head.ensures c.in_err-check_body.ensures in
    record { verdict_is = handed _ _ c.from_residual-in_err-check_body.ensures.1 ∙ e; results_is = left _ _ _ e }

pub copy_from_slice-requires : goal.copy_from_slice-requires
copy_from_slice-requires c = sym (headed _ _ (number_0 (sym c.in_ok-check_head.ensures))).received_ok

pub narrow-requires : goal.narrow-requires
narrow-requires c = (taken _ _ _ (number_0 (sym c.in_ok-check_body.ensures))).h1_ok

pub narrow-requires-2 : goal.narrow-requires-2
narrow-requires-2 c = (taken _ _ _ (number_0 (sym c.in_ok-check_body.ensures))).h2_ok

pub copy_from_slice-requires-2 : goal.copy_from_slice-requires-2
copy_from_slice-requires-2 c =
    (headed _ _ (number_0 (sym c.in_ok-check_head.ensures))).results_ok
    ∙ sym (ap length c.numbers-numbers.ensures ∙ numbers_length _ _ _)

pub returns : goal.returns
unfolding combine_verdict
returns c =
    let e = goes_on c.in_ok-check_head.ensures c.in_ok-check_body.ensures in
    let is =
    c.copy_from_slice-2.ensures.after ∙ c.numbers-numbers.ensures
    ∙ (λ i. numbers_of (c.narrow.ensures i) (c.narrow-2.ensures i) (c.copy_from_slice.ensures.after i))
    in
    record { verdict_is = e; results_is = written _ _ e is }
