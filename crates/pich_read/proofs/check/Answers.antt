-- `pich_read::check` meets its contract: the checks are the definition's, and the first that refuses ends them.
use mathlib.Core.Path.{sym}
use Rattle.run.proofs.Answers.{stops, goes_on, found_each}
use Rattle.run.proofs.Chain.{number_0}
use Rattle.pich.specs.Outcome.{stands, read_verdict}
use Rattle.pich.proofs.Laws.{headed}
use Rattle.pich_read.proofs.check.Goals as goal

pub returns-in_err-check_head : goal.returns-in_err-check_head
unfolding read_verdict
returns-in_err-check_head c = stops _ _ _ c.from_residual.ensures.1 c.in_err-check_head.ensures

pub first_misfit-requires : goal.first_misfit-requires
first_misfit-requires c =
    let h = headed _ _ _ (number_0 (sym c.in_ok-check_head.ensures)) in
    (h.np_ok, h.frame_ok)

pub returns : goal.returns
unfolding read_verdict
returns c =
    let h = headed _ _ _ (number_0 (sym c.in_ok-check_head.ensures)) in
    goes_on c.in_ok-check_head.ensures (found_each 0 9 (stands _ _) 300 c.first_misfit.result c.first_misfit.ensures (rw h.frame_ok at c.refused_at.ensures))
