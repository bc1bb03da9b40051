-- `compressed_map::map` meets its contract.
use mathlib.Core.Path.{sym, ◌∙◌}
use Rattle.run.proofs.Answers.{handed, left, written}
use Rattle.run.proofs.Chain.{number_0}
use Rattle.compressed.proofs.Accept.{mapped}
use Rattle.compressed_map.proofs.map.Goals as goal

pub returns-in_err-check : goal.returns-in_err-check
returns-in_err-check c =
    record { verdict_is = handed _ _ c.from_residual.ensures.1 ∙ c.in_err-check.ensures; out_is = left _ _ _ c.in_err-check.ensures }

pub write-requires : goal.write-requires
write-requires c = (mapped _ _ _ _ _ _ _ (number_0 (sym c.in_ok-check.ensures))).room

pub returns : goal.returns
returns c = record { verdict_is = c.in_ok-check.ensures; out_is = written _ _ c.in_ok-check.ensures c.write.ensures }
