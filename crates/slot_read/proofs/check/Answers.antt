-- `slot_read::check` meets its contract.
use mathlib.Core.Path.{sym, ◌∙◌}
use Rattle.run.proofs.Answers.{stops, goes_on}
use Rattle.run.proofs.Chain.{number_0}
use Rattle.slot.specs.Outcome.{read_verdict}
use Rattle.slot.proofs.Laws.{part_whole}
use Rattle.slot.proofs.Accept.{read_headed}
use Rattle.slot_read.proofs.check.Goals as goal

pub returns-in_err-read_head : goal.returns-in_err-read_head
unfolding read_verdict
returns-in_err-read_head c = stops _ _ _ c.from_residual.ensures.1 c.in_err-read_head.ensures

pub returns : goal.returns
unfolding read_verdict
returns c =
    let h = read_headed _ _ _ _ _ (number_0 (sym c.in_ok-read_head.ensures)) in
    goes_on c.in_ok-read_head.ensures (c.check_part.ensures ∙ part_whole _ _ _ _ h.ready.slot_ok)
