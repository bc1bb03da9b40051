-- `lengths::tell` meets its contract.
use mathlib.Core.Path.{refl}
use native.Mathlib.Omega.{arith}
use Rattle.lengths.proofs.Laws.{run_refused, run_there, run_told}
use Rattle.lengths.proofs.tell.Goals as goal

pub returns-in_err-require : goal.returns-in_err-require
returns-in_err-require c = run_refused _ _ _ _ c.from_residual.ensures.1 c.in_err-require.ensures

pub bounds-lengths-run : goal.bounds-lengths-run
bounds-lengths-run c = run_there _ _ c.in_ok-require.ensures

pub offset_bounds-lengths-run : goal.offset_bounds-lengths-run
offset_bounds-lengths-run c = let h = run_there _ _ c.in_ok-require.ensures in omega (arith, h)

pub returns : goal.returns
returns c = run_told _ _ refl c.in_ok-require.ensures
