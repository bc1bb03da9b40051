-- `dpdch::check` meets its contract: the checks are the definition's, and the first that refuses ends them.
use mathlib.Core.Path.{sym, ◌∙◌}
use native.Mathlib.Omega.{arith}
use Rattle.run.proofs.Answers.{stops, goes_on, found_each}
use Rattle.run.proofs.Chain.{each_pass}
use Rattle.run.proofs.Places.{above_first}
use Rattle.dpdch.specs.Outcome.{slots_verdict}
use Rattle.dpdch.proofs.Laws.{slots_small, few_bits}
use Rattle.dpdch.proofs.check.Goals as goal
use Rattle.dpdch.proofs.check.Goals.{then-are_few_bits-via-then-are_few_bits, then-are_few_bits-via-else-are_few_bits+then-are_few_bits-2}

pub overflow_mul-n : goal.overflow_mul-n
overflow_mul-n c = rw c.size_of.ensures (let h = slots_small c.args.slots c.args.format c.requires in omega arith)

pub returns-in_err-check_frame_head : goal.returns-in_err-check_frame_head
unfolding slots_verdict
returns-in_err-check_frame_head c = stops _ _ _ c.from_residual.ensures.1 (c.in_err-check_frame_head.ensures ∙ rw c.size_of.ensures)

pub returns-then-are_few_bits : goal.returns-then-are_few_bits
unfolding slots_verdict
returns-then-are_few_bits c =
    goes_on (c.in_ok-check_frame_head.ensures ∙ rw c.size_of.ensures)
    (sym (each_pass 0 4 _ _ (elim c.then-are_few_bits.branch [
      | then-are_few_bits-via-then-are_few_bits way ↦ few_bits _ 10 c.are_few_bits.ensures way.if-are_few_bits.true
      | then-are_few_bits-via-else-are_few_bits+then-are_few_bits-2 way ↦ few_bits _ 150 way.are_few_bits-else-are_few_bits.ensures way.if-are_few_bits-2.true
    ])))

pub returns : goal.returns
unfolding slots_verdict
returns c =
    goes_on (c.in_ok-check_frame_head.ensures ∙ rw c.size_of.ensures) (found_each _ _ _ _ c.above.result (above_first _ _ c.above.ensures) c.refused_at.ensures)
