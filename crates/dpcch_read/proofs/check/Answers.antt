-- `dpcch_read::check` meets its contract.
use mathlib.Core.Path.{sym, ◌∙◌}
use Rattle.run.proofs.Answers.{stops, goes_on}
use Rattle.run.proofs.Chain.{number_0}
use Rattle.dpcch.specs.Outcome.{read_verdict}
use Rattle.dpcch.proofs.Laws.{part_whole}
use Rattle.dpcch.proofs.Accept.{read_headed}
use Rattle.dpcch_fits.proofs.Laws.{fits_anywhere}
use Rattle.dpcch_read.proofs.check.Goals as goal

pub returns-in_err-check_head : goal.returns-in_err-check_head
unfolding read_verdict
returns-in_err-check_head c = stops _ _ _ c.from_residual.ensures.1 c.in_err-check_head.ensures

pub returns-then-fits : goal.returns-then-fits
unfolding read_verdict
returns-then-fits c =
    let a = c.args in
    let h = read_headed _ _ _ _ _ (number_0 (sym c.in_ok-check_head.ensures)) in
    goes_on c.in_ok-check_head.ensures
    (fits_anywhere a.format a.slot a.xs.now 0 c.fits.ensures c.if-fits.true ∙ part_whole _ _ _ _ h.ready.slot_ok)

pub returns : goal.returns
unfolding read_verdict
returns c =
    let h = read_headed _ _ _ _ _ (number_0 (sym c.in_ok-check_head.ensures)) in
    goes_on c.in_ok-check_head.ensures (c.check.ensures ∙ part_whole _ _ _ _ h.ready.slot_ok)
