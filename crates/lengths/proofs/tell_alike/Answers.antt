-- `lengths::tell_alike` meets its contract.
use mathlib.Core.Path.{sym}
use lib.ListN.{length-replicate}
use Rattle.std.proofs.lemmas.List.{get_or-replicate}
use Rattle.lengths.proofs.Laws.{run_refused, run_there, run_told}
use Rattle.lengths.proofs.tell_alike.Goals as goal

pub returns-in_err-require : goal.returns-in_err-require
returns-in_err-require c =
    run_refused _ _ _ _ c.from_residual.ensures.1 (rw (length-replicate c.args.count c.args.length) c.in_err-require.ensures)

pub returns : goal.returns
returns c =
    run_told _ _ (sym (get_or-replicate c.args.count c.args.run c.args.length 0 (run_there _ _ c.in_ok-require.ensures)))
    (rw (length-replicate c.args.count c.args.length) c.in_ok-require.ensures)
