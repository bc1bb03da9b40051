-- `desk::distance` meets its contract.
use mathlib.Core.Path.{◌≡◌, ap, ◌∙◌}
use Prim.Native.Nat.{ℕ}
use borrow.Author.Tests.{eq-eqb, ne_eqb}
use Rattle.std.specs.Prelude.{Result, Ok, Err}
use Rattle.std.specs.Result.{IsErrAnd}
use Rattle.run.specs.declared.refusal.Refusal.{Refusal}
use Rattle.run.specs.Answers.{number_of}
use Rattle.run.specs.Verdicts.{refused}
use Rattle.run.proofs.Answers.{left, written}
use Rattle.desk.specs.Outcome.{timing_verdict}
use Rattle.desk.specs.Method.{DistanceIs}
use Rattle.desk.proofs.distance.Goals as goal

-- a refusal that is handed on
refuses : {timing short long : ℕ} (r : Result ℕ Refusal) (x : Refusal) → IsErrAnd r (λ e. e ≡ x) → refused (number_of x.reason) x.place ≡ timing_verdict timing
    → DistanceIs timing short long r
refuses (Ok chips) x h e = absurd h
refuses (Err y) x h e = record { verdict_is = ap (λ z. refused (number_of z.reason) z.place) h ∙ e; chips_is = left x _ _ e }

pub returns-in_err-require : goal.returns-in_err-require
unfolding timing_verdict
returns-in_err-require c = refuses _ _ c.from_residual.ensures.1 c.in_err-require.ensures

pub returns-then-timing-eq0 : goal.returns-then-timing-eq0
unfolding timing_verdict
returns-then-timing-eq0 c =
    let e = c.in_ok-require.ensures in
    record { verdict_is = e; chips_is = written _ _ e (rw (eq-eqb _ _ c.if-timing-eq0.true)) }

pub returns-else-timing-eq0 : goal.returns-else-timing-eq0
unfolding timing_verdict
returns-else-timing-eq0 c =
    let e = c.in_ok-require.ensures in
    record { verdict_is = e; chips_is = written _ _ e (rw (ne_eqb _ _ c.if-timing-eq0.false)) }
