-- `wake_run::run` meets its contract: frames that are no multiple of 300 digits are refused before any is read, and each turn is one frame more.
use mathlib.Core.Path.{refl}
use native.Mathlib.Omega.{arith}
use Rattle.run.proofs.Answers.{handed, refuses}
use Rattle.wake_run.proofs.Laws.{ran_none, ran_more, ran_stops, ran_ends, run_refused, whole}
use Rattle.wake_run.proofs.run.Goals as goal

pub returns-in_err-require : goal.returns-in_err-require
returns-in_err-require c = run_refused _ _ _ _ _ _ c.from_residual.ensures.1 c.in_err-require.ensures

pub loop-k-init : goal.loop-k-init
loop-k-init c = ran_none _ _ _ _

pub returns-in_err-frame : goal.returns-in_err-frame
returns-in_err-frame c =
    let x = c.in_err-frame.field-0.0 in
    rw (handed _ _ c.from_residual-in_err-frame.ensures.1)
    (ran_stops _ _ _ _ _ _ c.loop-k.invariant _ c.in_err-frame.ensures (whole _ c.in_ok-require.ensures) c.loop-k-test.true (refuses x x.place))

pub loop-k-preserved : goal.loop-k-preserved
loop-k-preserved c = ran_more _ _ _ _ _ _ c.loop-k.invariant _ c.in_ok-frame.ensures refl

pub returns : goal.returns
returns c = ran_ends _ _ _ _ _ _ c.loop-k.invariant (whole _ c.in_ok-require.ensures) (omega arith)
