-- `pich_map::write_frame` meets its contract: each turn writes one indicator's stretch from the front on, and the tail is the last part.
use mathlib.Core.Path.{◌≡◌, sym, ◌∙◌}
use Prim.Native.Nat.{◌*◌}
use native.Mathlib.Nat.{mul-zero}
use native.Mathlib.Omega.{arith}
use Rattle.run.proofs.Front.{front_none, front_length}
use Rattle.pich.specs.Rule.{width}
use Rattle.pich.proofs.Laws.{Stretch, stretch, groups, frame_length}
use Rattle.pich_map.proofs.Laws.{one_more, tail_last}
use Rattle.pich_map.proofs.write_frame.Goals as goal
use Rattle.pich_map.proofs.write_frame.Goals.{After-first_digit-start}

-- the indicator of a turn
here : (c : After-first_digit-start) → Stretch c.args.np c.loop-q.q c.first_digit-start.result
here c = stretch _ _ _ c.requires.0 c.loop-q-test.true c.first_digit-start.ensures

pub nonzero_div-width : goal.nonzero_div-width
nonzero_div-width c = (groups _ c.requires.0).some

pub loop-q-init : goal.loop-q-init
loop-q-init c = rw mul-zero (front_none (frame_length _ _ ∙ sym c.requires.2))

pub overflow_add-end : goal.overflow_add-end
overflow_add-end c = omega (arith, here (goal.at.overflow_add-end c).After-first_digit-start)

pub slice_bounds-fill-start : goal.slice_bounds-fill-start
slice_bounds-fill-start c = omega (arith, here (goal.at.slice_bounds-fill-start c).After-first_digit-start, front_length c.loop-q.invariant)

pub slice_bounds-fill-end : goal.slice_bounds-fill-end
slice_bounds-fill-end c = omega (arith, here (goal.at.slice_bounds-fill-end c).After-first_digit-start, front_length c.loop-q.invariant)

pub loop-q-preserved : goal.loop-q-preserved
loop-q-preserved c =
    one_more _ _ c.requires.0 _ _ c.loop-q-test.true (here (goal.at.loop-q-preserved c).After-first_digit-start).begins _ _ _ c.requires.2 c.loop-q.invariant
    (c.fill.ensures.after (λ y e. e))

pub slice_bounds-fill-start-2 : goal.slice_bounds-fill-start-2
slice_bounds-fill-start-2 c = omega (arith, front_length c.loop-q.invariant)

pub slice_bounds-fill-end-2 : goal.slice_bounds-fill-end-2
slice_bounds-fill-end-2 c = omega (arith, front_length c.loop-q.invariant)

pub returns : goal.returns
returns c =
    let all : c.loop-q.q ≡ c.args.np = omega arith in
    let written : width c.args.np * c.loop-q.q ≡ 288 = rw all (groups _ c.requires.0).whole in
    tail_last _ _ c.requires.0 _ _ _ c.requires.2 (rw written at c.loop-q.invariant) (c.fill-2.ensures.after (λ y e. e))
