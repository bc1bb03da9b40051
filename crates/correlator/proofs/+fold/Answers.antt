-- `correlator::fold` meets its contract: what a level leaves is two runs, each one level less deep.
use Prim.Native.Nat.{ℕ}
use native.Mathlib.Omega.{arith}
use Rattle.correlator.proofs.Folding.{can_level, one_stays, Levelled, last_level, first_can, first_less, second_can, second_less, both_parts}
use Rattle.correlator.proofs.+fold.Goals as goal
use Rattle.correlator.proofs.+fold.Goals.{After-level}

-- the run after the level
cut : (t : ℕ) (c : After-level t) → Levelled c.args.s.now c.level.new.s
cut t c = record { room = c.requires; big = c.if-h-gt0.true; is = c.level.ensures }

pub level-requires : goal.level-requires
level-requires t c = can_level _ c.requires c.if-h-gt0.true

pub fold-requires : goal.fold-requires
fold-requires t c =
    let levelled = cut t (goal.at.fold-requires t c).After-level in
    (rw (← c.decreases) (first_less levelled), first_can levelled)

pub fold-requires-then-h-gt1 : goal.fold-requires-then-h-gt1
fold-requires-then-h-gt1 t c =
    let levelled = cut t (goal.at.fold-requires-then-h-gt1 t c).After-level in
    (rw (← c.decreases) (second_less levelled _ c.fold.ensures), second_can levelled _ c.fold.ensures)

pub returns-then-h-gt1 : goal.returns-then-h-gt1
returns-then-h-gt1 t c = both_parts (cut t (goal.at.returns-then-h-gt1 t c).After-level) _ c.fold.ensures _ c.fold-then-h-gt1.ensures

pub returns-else-h-gt1 : goal.returns-else-h-gt1
returns-else-h-gt1 t c = last_level (cut t (goal.at.returns-else-h-gt1 t c).After-level) c.if-h-gt1.false

pub returns-else-h-gt0 : goal.returns-else-h-gt0
returns-else-h-gt0 t c = one_stays _ c.requires (omega arith)
