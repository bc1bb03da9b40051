-- `job_open::check_head` meets its contract.
use mathlib.Core.Path.{◌∙◌}
use native.Mathlib.Omega.{arith}
use Rattle.run.proofs.Answers.{stops, goes_on}
use Rattle.job.specs.Outcome.{head_verdict}
use Rattle.job.proofs.Checks.{width_small}
use Rattle.job_open.proofs.check_head.Goals as goal

pub overflow_add-width_of : goal.overflow_add-width_of
overflow_add-width_of c = let w = width_small c.byte_at-version.result in rw c.width_of.ensures (omega arith)

pub returns-in_err-byte_is : goal.returns-in_err-byte_is
unfolding head_verdict
returns-in_err-byte_is c =
    stops _ _ _ c.from_residual.ensures.1 (c.in_err-byte_is.ensures ∙ rw c.byte_at.ensures)

pub returns-in_err-byte_is-2 : goal.returns-in_err-byte_is-2
unfolding head_verdict
returns-in_err-byte_is-2 c =
    goes_on (c.in_ok-byte_is.ensures ∙ rw c.byte_at.ensures)
    (stops _ _ _ c.from_residual-in_err-byte_is-2.ensures.1 (c.in_err-byte_is-2.ensures ∙ rw c.byte_at-2.ensures))

pub returns-in_err-byte_is-3 : goal.returns-in_err-byte_is-3
unfolding head_verdict
returns-in_err-byte_is-3 c =
    goes_on (c.in_ok-byte_is.ensures ∙ rw c.byte_at.ensures)
    (goes_on (c.in_ok-byte_is-2.ensures ∙ rw c.byte_at-2.ensures)
    (stops _ _ _ c.from_residual-in_err-byte_is-3.ensures.1 (c.in_err-byte_is-3.ensures ∙ rw c.byte_at-3.ensures)))

pub returns-in_err-byte_is-4 : goal.returns-in_err-byte_is-4
unfolding head_verdict
returns-in_err-byte_is-4 c =
    goes_on (c.in_ok-byte_is.ensures ∙ rw c.byte_at.ensures)
    (goes_on (c.in_ok-byte_is-2.ensures ∙ rw c.byte_at-2.ensures)
    (goes_on (c.in_ok-byte_is-3.ensures ∙ rw c.byte_at-3.ensures)
    (stops _ _ _ c.from_residual-in_err-byte_is-4.ensures.1 (c.in_err-byte_is-4.ensures ∙ rw c.byte_at-4.ensures))))

pub returns-in_err-byte_is-5 : goal.returns-in_err-byte_is-5
unfolding head_verdict
returns-in_err-byte_is-5 c =
    goes_on (c.in_ok-byte_is.ensures ∙ rw c.byte_at.ensures)
    (goes_on (c.in_ok-byte_is-2.ensures ∙ rw c.byte_at-2.ensures)
    (goes_on (c.in_ok-byte_is-3.ensures ∙ rw c.byte_at-3.ensures)
    (goes_on (c.in_ok-byte_is-4.ensures ∙ rw c.byte_at-4.ensures)
    (stops _ _ _ c.from_residual-in_err-byte_is-5.ensures.1 (c.in_err-byte_is-5.ensures ∙ rw (c.is_version.ensures, c.byte_at-version.ensures))))))

pub returns-in_err-check_length : goal.returns-in_err-check_length
unfolding head_verdict
returns-in_err-check_length c =
    goes_on (c.in_ok-byte_is.ensures ∙ rw c.byte_at.ensures)
    (goes_on (c.in_ok-byte_is-2.ensures ∙ rw c.byte_at-2.ensures)
    (goes_on (c.in_ok-byte_is-3.ensures ∙ rw c.byte_at-3.ensures)
    (goes_on (c.in_ok-byte_is-4.ensures ∙ rw c.byte_at-4.ensures)
    (goes_on (c.in_ok-byte_is-5.ensures ∙ rw (c.is_version.ensures, c.byte_at-version.ensures))
    (stops _ _ _ c.from_residual-in_err-check_length.ensures.1 (c.in_err-check_length.ensures ∙ rw c.byte_at-version.ensures))))))

pub returns : goal.returns
unfolding head_verdict
returns c =
    goes_on (c.in_ok-byte_is.ensures ∙ rw c.byte_at.ensures)
    (goes_on (c.in_ok-byte_is-2.ensures ∙ rw c.byte_at-2.ensures)
    (goes_on (c.in_ok-byte_is-3.ensures ∙ rw c.byte_at-3.ensures)
    (goes_on (c.in_ok-byte_is-4.ensures ∙ rw c.byte_at-4.ensures)
    (goes_on (c.in_ok-byte_is-5.ensures ∙ rw (c.is_version.ensures, c.byte_at-version.ensures))
    (goes_on (c.in_ok-check_length.ensures ∙ rw c.byte_at-version.ensures)
    (c.present.ensures ∙ rw (c.width_of.ensures, c.byte_at-version.ensures)))))))
