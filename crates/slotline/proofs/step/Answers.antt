-- `step` runs a record that is inside the window, and its line stays within the lines.
use Rattle.std.proofs.Common.{arith, length}
use Rattle.lines.proofs.Records.{prints_fit}
use Rattle.slotline.proofs.Laws.{part_fits, record_inside}
use Rattle.slotline.proofs.step.Goals as goal

pub overflow_add-result : goal.overflow_add-result
overflow_add-result c =
    let size = record_inside c.args.s.at c.args.s.filled c.args.window.now (rw c.in-Ok.is at c.run.ensures) in
    omega (arith, size, c.requires)

pub overflow_add-result-in-Ok : goal.overflow_add-result-in-Ok
overflow_add-result-in-Ok c =
    let r = rw c.in-Ok.is at c.run.ensures in
    let line = part_fits c.args.s.waiting (length c.args.out.now) c.args.out.now _ _ (prints_fit r.prints) c.run.auto.line (omega (arith, c.requires)) (omega (arith, c.requires)) in
    omega (arith, line, c.requires)

pub returns-in-Ok-clause-turned : goal.returns-in-Ok-clause-turned
returns-in-Ok-clause-turned c =
    let sound = c.requires.0 in
    let r = rw c.in-Ok.is at c.run.ensures in
    let size = record_inside c.args.s.at c.args.s.filled c.args.window.now r in
    let line = part_fits c.args.s.waiting (length c.args.out.now) c.args.out.now _ _ (prints_fit r.prints) c.run.auto.line (omega (arith, c.requires)) (omega (arith, c.requires)) in
    record {
      sound = record { cut = omega (arith, size, sound.cut); inside = sound.inside; bounded = sound.bounded; waits = omega (arith, line, c.requires.2) };
      less = omega (arith, c.requires.3);
    }
