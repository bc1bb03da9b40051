-- `slot_put::put` meets its contract.
use mathlib.Core.Path.{sym, ◌∙◌}
use Rattle.run.proofs.Answers.{handed, left, written}
use Rattle.run.proofs.Chain.{number_0}
use Rattle.slot.proofs.Accept.{map_headed}
use Rattle.slot_put.proofs.put.Goals as goal

pub returns-in_err-map_head : goal.returns-in_err-map_head
returns-in_err-map_head c =
    record { verdict_is = handed _ _ c.from_residual.ensures.1 ∙ c.in_err-map_head.ensures; out_is = left _ _ _ c.in_err-map_head.ensures }

pub write-requires : goal.write-requires
write-requires c = rw c.format_of.ensures (map_headed _ _ _ _ _ (number_0 (sym c.in_ok-map_head.ensures))).ready

pub returns : goal.returns
returns c =
    record { verdict_is = c.in_ok-map_head.ensures; out_is = written _ _ c.in_ok-map_head.ensures (c.write.ensures ∙ rw c.format_of.ensures) }
