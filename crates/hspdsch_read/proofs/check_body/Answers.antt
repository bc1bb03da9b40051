-- `hspdsch_read::check_body` meets its contract: antenna 1's bits, then whether antenna 2 is what they give; where it is not, antenna 2's bits come first.
use mathlib.Core.Path.{◌≡◌}
use native.Mathlib.Omega.{arith}
use lib.ListN.{length}
use Rattle.run.specs.Verdicts.{done, each}
use Rattle.run.specs.First.{at_most}
use Rattle.run.proofs.Answers.{stops, found_each}
use Rattle.run.proofs.Places.{above_first}
use Rattle.hspdsch.specs.Outcome.{read_body}
use Rattle.hspdsch.proofs.Laws.{size_small, size_whole}
use Rattle.hspdsch_read.proofs.Laws.{body_agrees, body_digit, body_frame, first_below}
use Rattle.hspdsch_read.proofs.check_body.Goals as goal
use Rattle.hspdsch_read.proofs.check_body.Goals.{In_ok-refused_at}

-- antenna 1 has bits
bits : (c : In_ok-refused_at) → done ≡ each 0 4 (at_most 1 c.args.antenna1.now) (length c.args.antenna1.now)
bits c = found_each 0 4 _ _ c.above.result (above_first 1 c.args.antenna1.now c.above.ensures) c.in_ok-refused_at.ensures

pub returns-in_err-refused_at : goal.returns-in_err-refused_at
unfolding read_body
returns-in_err-refused_at c =
    stops _ _ _ c.from_residual.ensures.1 (found_each 0 4 _ _ c.above.result (above_first 1 c.args.antenna1.now c.above.ensures) c.in_err-refused_at.ensures)

pub first_difference-requires : goal.first_difference-requires
first_difference-requires c =
    let whole = size_whole c.args.format c.requires.0 in
    (omega (arith, c.requires.1), omega (arith, c.requires.1, c.requires.2))

pub overflow_add-result : goal.overflow_add-result
overflow_add-result c =
    let small = size_small c.args.format c.requires.0 in
    let below = first_below c.args.format c.args.antenna1.now c.args.antenna2.now c.requires.0 c.requires.1 c.requires.2 (bits (goal.at.overflow_add-result c).In_ok-refused_at) c.first_difference.ensures c.in-Some.m c.in-Some.is in
    omega (arith, below, c.requires.1)

pub returns-in-None : goal.returns-in-None
returns-in-None c =
    body_agrees c.args.format c.args.antenna1.now c.args.antenna2.now c.requires.0 c.requires.1 c.requires.2 (bits (goal.at.returns-in-None c).In_ok-refused_at) c.first_difference.ensures c.in-None.is

pub returns-in-None-above : goal.returns-in-None-above
returns-in-None-above c =
    body_frame c.args.format c.args.antenna1.now c.args.antenna2.now c.requires.0 c.requires.1 c.requires.2 (bits (goal.at.returns-in-None-above c).In_ok-refused_at) c.first_difference.ensures c.above-in-Some.ensures c.in-Some.m c.in-Some.is c.in-None-above.is

pub returns-in-Some-above : goal.returns-in-Some-above
returns-in-Some-above c =
    body_digit c.args.format c.args.antenna1.now c.args.antenna2.now c.requires.0 c.requires.1 c.requires.2 (bits (goal.at.returns-in-Some-above c).In_ok-refused_at) c.first_difference.ensures c.above-in-Some.ensures c.in-Some-above.i c.in-Some-above.is
