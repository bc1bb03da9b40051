-- `combiner::check_body` meets its contract: the checks are the definition's, and the first that refuses ends them.
use mathlib.Core.Path.{◌≡◌, ap, ◌∙◌}
use Prim.Native.Nat.{◌<◌, ◌^◌}
use lib.IntN.{ℤ}
use lib.Signed.{mag}
use mir.Syntax.{w64}
use mir.Val.{to_z, of_z, hbits}
use mir.Facts.{to_z-of_z}
use borrow.Author.Rules.{rules}
use Rattle.run.specs.Verdict.{Verdict}
use Rattle.run.specs.Verdicts.{unless}
use Rattle.run.specs.Refusals.{range_refused}
use Prim.Native.Nat.{ℕ}
use mathlib.Core.Bool.{Bool}
use Rattle.run.proofs.Answers.{stops, goes_on}
use Rattle.combiner.specs.Outcome.{gain_in, combine_body}
use Rattle.combiner.proofs.check_body.Goals as goal

-- a check of a gain part, which was read from its bits
seen : {v : Verdict} (z : ℤ) (place : ℕ) {b : Bool} → mag z < 2 ^ hbits w64 → b ≡ gain_in (to_z w64 (of_z w64 z)) → v ≡ unless b range_refused place
    → v ≡ unless (gain_in z) range_refused place
seen z place h e told = told ∙ rw e (ap (λ (x : ℤ). unless (gain_in x) range_refused place) (to_z-of_z {w = w64} {z = z} (record { sfits = h })))

pub returns-in_err-require : goal.returns-in_err-require
unfolding combine_body
returns-in_err-require c =
    (stops _ _ _ c.from_residual.ensures.1 (seen _ 0 (search rules) c.gain_in.ensures c.in_err-require.ensures))

pub returns-in_err-require-2 : goal.returns-in_err-require-2
unfolding combine_body
returns-in_err-require-2 c =
    (goes_on (seen _ 0 (search rules) c.gain_in.ensures c.in_ok-require.ensures)
    (stops _ _ _ c.from_residual-in_err-require-2.ensures.1 (seen _ 1 (search rules) c.gain_in-2.ensures c.in_err-require-2.ensures)))

pub returns-in_err-require-3 : goal.returns-in_err-require-3
unfolding combine_body
returns-in_err-require-3 c =
    (goes_on (seen _ 0 (search rules) c.gain_in.ensures c.in_ok-require.ensures)
    (goes_on (seen _ 1 (search rules) c.gain_in-2.ensures c.in_ok-require-2.ensures)
    (stops _ _ _ c.from_residual-in_err-require-3.ensures.1 (seen _ 2 (search rules) c.gain_in-3.ensures c.in_err-require-3.ensures))))

pub returns-in_err-require-4 : goal.returns-in_err-require-4
unfolding combine_body
returns-in_err-require-4 c =
    (goes_on (seen _ 0 (search rules) c.gain_in.ensures c.in_ok-require.ensures)
    (goes_on (seen _ 1 (search rules) c.gain_in-2.ensures c.in_ok-require-2.ensures)
    (goes_on (seen _ 2 (search rules) c.gain_in-3.ensures c.in_ok-require-3.ensures)
    (stops _ _ _ c.from_residual-in_err-require-4.ensures.1 (seen _ 3 (search rules) c.gain_in-4.ensures c.in_err-require-4.ensures)))))

pub returns-in_err-check_parts : goal.returns-in_err-check_parts
unfolding combine_body
returns-in_err-check_parts c =
    (goes_on (seen _ 0 (search rules) c.gain_in.ensures c.in_ok-require.ensures)
    (goes_on (seen _ 1 (search rules) c.gain_in-2.ensures c.in_ok-require-2.ensures)
    (goes_on (seen _ 2 (search rules) c.gain_in-3.ensures c.in_ok-require-3.ensures)
    (goes_on (seen _ 3 (search rules) c.gain_in-4.ensures c.in_ok-require-4.ensures)
    (stops _ _ _ c.from_residual-in_err-check_parts.ensures.1 c.in_err-check_parts.ensures)))))

pub returns : goal.returns
unfolding combine_body
returns c =
    (goes_on (seen _ 0 (search rules) c.gain_in.ensures c.in_ok-require.ensures)
    (goes_on (seen _ 1 (search rules) c.gain_in-2.ensures c.in_ok-require-2.ensures)
    (goes_on (seen _ 2 (search rules) c.gain_in-3.ensures c.in_ok-require-3.ensures)
    (goes_on (seen _ 3 (search rules) c.gain_in-4.ensures c.in_ok-require-4.ensures)
    (goes_on c.in_ok-check_parts.ensures
    (c.require-5.ensures ∙ rw c.some_gain.ensures))))))
