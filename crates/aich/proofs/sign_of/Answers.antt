-- `aich::sign_of` meets its contract.
use mir.Syntax.{w32}
use mir.Facts.{to_z-of_z}
use Rattle.aich.specs.Method.{sign_of}
use Rattle.aich.proofs.sign_of.Goals as goal

pub returns-then-sum-gt0 : goal.returns-then-sum-gt0
unfolding sign_of
returns-then-sum-gt0 c = rw (rw (to_z-of_z {w = w32} c.ranges.sum) at c.if-sum-gt0.true)

pub returns-then-sum-lt0 : goal.returns-then-sum-lt0
unfolding sign_of
returns-then-sum-lt0 c =
    let f = c.ranges.sum in
    rw (rw (to_z-of_z {w = w32} f) at c.if-sum-gt0.false, rw (to_z-of_z {w = w32} f) at c.if-sum-lt0.true)

pub returns : goal.returns
unfolding sign_of
returns c =
    let f = c.ranges.sum in
    rw (rw (to_z-of_z {w = w32} f) at c.if-sum-gt0.false, rw (to_z-of_z {w = w32} f) at c.if-sum-lt0.false)
