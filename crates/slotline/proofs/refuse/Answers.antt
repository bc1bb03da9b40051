-- `refuse` ends the run and stays within the lines.
use Rattle.std.proofs.Common.{refl, ◌∙◌, ◌+◌, ◌≤◌, arith, length}
use Rattle.lines.proofs.Answers.{length_is}
use Rattle.lines.proofs.Records.{prints_fit}
use Rattle.slotline.proofs.Laws.{part_fits}
use Rattle.slotline.proofs.refuse.Goals as goal
use Rattle.slotline.proofs.refuse.Goals.{After-unwrap_or-length}

-- the line is within the lines
fits : (c : After-unwrap_or-length) → c.args.s.waiting + c.unwrap_or-length.result ≤ 65536
fits c =
    let line = part_fits c.args.s.waiting (length c.args.out.now) c.args.out.now _ _ (prints_fit c.tell-told.ensures.prints) c.tell-told.auto.line (omega (arith, c.requires)) (omega (arith, c.requires)) in
    omega (arith, line, c.requires.1, c.unwrap_or-length.ensures ∙ length_is c.tell-told.result)

pub overflow_add-result : goal.overflow_add-result
overflow_add-result c = omega (arith, fits (goal.at.overflow_add-result c).After-unwrap_or-length)

pub returns-clause-ended : goal.returns-clause-ended
returns-clause-ended c =
    let sound = c.requires.0 in
    (record { cut = sound.cut; inside = sound.inside; bounded = sound.bounded; waits = fits (goal.at.returns-clause-ended c).After-unwrap_or-length }, refl)
