-- `desk_serve::last_served` meets its contract: each turn goes on to the next candidate in circular order.
use Prim.Native.Nat.{◌≤◌}
use native.Mathlib.Omega.{arith}
use lib.Count.{trailing_le}
use Rattle.desk.proofs.Round.{ring_start, ring_next, ring_empty, ring_full}
use Rattle.desk_serve.proofs.last_served.Goals as goal

pub turned-rest-requires : goal.turned-rest-requires
turned-rest-requires c = c.requires

pub loop-met-init : goal.loop-met-init
loop-met-init c = ring_start c.requires c.turned-rest.ensures

pub overflow_add-result : goal.overflow_add-result
overflow_add-result c =
    let fits : c.args.last ≤ 15 = c.requires in
    let w = c.loop-met.invariant.round.within in
    omega arith

pub returns-then-rest-eq0 : goal.returns-then-rest-eq0
returns-then-rest-eq0 c = ring_empty c.requires c.loop-met.invariant c.if-rest-eq0.true

pub overflow_cast-place : goal.overflow_cast-place
overflow_cast-place c = let l = trailing_le 32 c.loop-met.rest in omega arith

pub overflow_add-place : goal.overflow_add-place
overflow_add-place c = let l = trailing_le 32 c.loop-met.rest in omega arith

pub overflow_sub-rest : goal.overflow_sub-rest
overflow_sub-rest c = omega (arith, c.if-rest-eq0.false)

pub loop-met-preserved : goal.loop-met-preserved
loop-met-preserved c = ring_next c.requires c.loop-met.invariant c.if-rest-eq0.false c.loop-met-test.true

pub overflow_add-result-2 : goal.overflow_add-result-2
overflow_add-result-2 c =
    let fits : c.args.last ≤ 15 = c.requires in
    let w = c.loop-met.invariant.round.within in
    omega arith

pub returns : goal.returns
returns c = ring_full c.requires c.loop-met.invariant c.loop-met-test.false
