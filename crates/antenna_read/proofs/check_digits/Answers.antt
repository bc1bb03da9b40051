-- `antenna_read::check_digits` meets its contract: the checks are the definition's, and the first that refuses ends them.
use mathlib.Core.Path.{◌≡◌, ◌∙◌}
use Prim.Native.Nat.{◌≤◌, min}
use native.Mathlib.Omega.{arith}
use lib.ListN.{length}
use Rattle.run.proofs.Answers.{stops, goes_on, found_each}
use Rattle.run.proofs.Places.{above_first, difference_first}
use Rattle.dpch.specs.Formats.{format_of}
use Rattle.slot.proofs.Laws.{sound_format, part_whole}
use Rattle.antenna.specs.Rule.{second_of}
use Rattle.antenna.specs.Outcome.{read_body}
use Rattle.antenna.proofs.Laws.{second_length}
use Rattle.antenna_read.proofs.check_digits.Goals as goal

pub overflow_cast-n : goal.overflow_cast-n
overflow_cast-n c = omega (arith, c.requires.0, (sound_format c.args.format).short)

pub returns-in_err-refused_at : goal.returns-in_err-refused_at
unfolding read_body
returns-in_err-refused_at c =
    stops _ _ _ c.from_residual.ensures.1 (found_each _ _ _ _ c.above.result (above_first _ _ c.above.ensures) c.in_err-refused_at.ensures)

pub returns-in_err-refused_at-2 : goal.returns-in_err-refused_at-2
unfolding read_body
returns-in_err-refused_at-2 c =
    goes_on (found_each _ _ _ _ c.above.result (above_first _ _ c.above.ensures) c.in_ok-refused_at.ensures)
    (stops _ _ _ c.from_residual-in_err-refused_at-2.ensures.1 (found_each _ _ _ _ c.above-2.result (above_first _ _ c.above-2.ensures) c.in_err-refused_at-2.ensures ∙ rw c.requires.0))

pub returns-in_err-check_part : goal.returns-in_err-check_part
unfolding read_body
returns-in_err-check_part c =
    goes_on (found_each _ _ _ _ c.above.result (above_first _ _ c.above.ensures) c.in_ok-refused_at.ensures)
    (goes_on (found_each _ _ _ _ c.above-2.result (above_first _ _ c.above-2.ensures) c.in_ok-refused_at-2.ensures ∙ rw c.requires.0)
    (stops _ _ _ c.from_residual-in_err-check_part.ensures.1 (c.in_err-check_part.ensures ∙ part_whole _ _ _ _ c.requires.0)))

pub returns : goal.returns
unfolding read_body
returns c =
    let implied = second_of c.args.format c.args.slot c.args.first.now in
    let second = c.args.second.now in
    let l = second_length c.args.format c.args.slot c.args.first.now c.requires.0 in
    let n : min (length implied) (length second) ≡ length second = omega (arith, l, c.requires.1) in
    let d = rw n at (difference_first implied second c.first_difference-differs.ensures) in
    goes_on (found_each _ _ _ _ c.above.result (above_first _ _ c.above.ensures) c.in_ok-refused_at.ensures)
    (goes_on (found_each _ _ _ _ c.above-2.result (above_first _ _ c.above-2.ensures) c.in_ok-refused_at-2.ensures ∙ rw c.requires.0)
    (goes_on (c.in_ok-check_part.ensures ∙ part_whole _ _ _ _ c.requires.0)
    (found_each _ _ _ _ c.first_difference-differs.result d c.refused_at-3.ensures ∙ rw (c.requires.0, c.requires.1))))
