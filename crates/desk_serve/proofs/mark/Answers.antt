-- `desk_serve::mark` meets its contract.
use borrow.Author.Tests.{le-leb, lt-leb}
use Prim.Native.Nat.{◌/◌, ◌%◌, ◌^◌}
use mathlib.Core.Path.{◌≡◌}
use native.Mathlib.Omega.{arith}
use Rattle.aich.specs.Rule.{offers}
use Rattle.desk.specs.Rule.{place_of}
use Rattle.desk.specs.Method.{mark_of}
use Rattle.desk_serve.proofs.mark.Goals as goal

pub returns-then-candidates-s-eq0 : goal.returns-then-candidates-s-eq0
unfolding mark_of offers
returns-then-candidates-s-eq0 c = rw c.if-candidates-s-eq0.true

pub returns-then-s-last : goal.returns-then-s-last
unfolding mark_of offers place_of
returns-then-s-last c =
    let args = c.args in
    let is : args.candidates / 2 ^ args.s % 2 ≡ 1 = omega (arith, c.if-candidates-s-eq0.false) in
    rw (is, le-leb _ _ c.if-s-last.true)

pub returns : goal.returns
unfolding mark_of offers place_of
returns c =
    let args = c.args in
    let is : args.candidates / 2 ^ args.s % 2 ≡ 1 = omega (arith, c.if-candidates-s-eq0.false) in
    rw (is, lt-leb _ _ c.if-s-last.false)
