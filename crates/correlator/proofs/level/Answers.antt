-- `correlator::level` meets its contract: after k turns the first k entries of both halves are folded.
use mathlib.Core.Path.{◌≡◌, refl}
use native.Mathlib.Omega.{arith}
use lib.ListN.{length-set}
use Rattle.correlator.proofs.Folding.{level_none, level_all, turn_sum, turn_difference, turn_level}
use Rattle.correlator.proofs.level.Goals as goal

pub loop-k-init : goal.loop-k-init
loop-k-init c = (omega arith, refl, level_none _ _ c.requires)

pub overflow_add-s : goal.overflow_add-s
overflow_add-s c = let head = c in turn_sum _ _ head.requires _ _ head.loop-k.invariant.2 c.loop-k-test.true

pub overflow_sub-s : goal.overflow_sub-s
overflow_sub-s c = let head = c in turn_difference _ _ head.requires _ _ head.loop-k.invariant.2 c.loop-k-test.true

pub bounds-s-h : goal.bounds-s-h
bounds-s-h c = simp length-set (omega arith)

pub loop-k-preserved : goal.loop-k-preserved
loop-k-preserved c =
    let head = c in (
      omega arith,
      simp length-set head.loop-k.invariant.1,
      turn_level _ _ head.requires _ _ head.loop-k.invariant.2 c.loop-k-test.true,
    )

pub returns : goal.returns
returns c =
    let head = c in
    let end : head.loop-k.k ≡ head.args.h = omega arith in
    level_all _ _ head.requires (rw end at head.loop-k.invariant.2)
