-- `pich_read::first_misfit` meets its contract: the scan's laws part by part.
use mathlib.Core.Path.{◌≡◌}
use Prim.Native.Nat.{◌*◌}
use native.Mathlib.Nat.{mul-zero}
use native.Mathlib.Omega.{arith}
use borrow.Author.Count.{below_none}
use Rattle.pich.specs.Rule.{width}
use Rattle.run.specs.First.{Every}
use Rattle.pich.specs.Outcome.{stands}
use Rattle.pich.proofs.Laws.{Stretch, stretch, groups}
use Rattle.pich_read.proofs.Laws.{in_width, hit, pass, last, in_last}
use Rattle.pich_read.proofs.first_misfit.Goals as goal
use Rattle.pich_read.proofs.first_misfit.Goals.{After-first_digit-start, After-loop-q}

-- the indicator of a turn
here : (c : After-first_digit-start) → Stretch c.args.np c.loop-q.q c.first_digit-start.result
here c = stretch _ _ _ c.requires.0 c.loop-q-test.true c.first_digit-start.ensures

pub nonzero_div-width : goal.nonzero_div-width
nonzero_div-width c = (groups _ c.requires.0).some

pub loop-q-init : goal.loop-q-init
loop-q-init c = rw mul-zero (below_none _)

pub overflow_add-end : goal.overflow_add-end
overflow_add-end c = omega (arith, here (goal.at.overflow_add-end c).After-first_digit-start)

pub slice_bounds-unlike-start : goal.slice_bounds-unlike-start
slice_bounds-unlike-start c = omega (arith, here (goal.at.slice_bounds-unlike-start c).After-first_digit-start)

pub slice_bounds-unlike-end : goal.slice_bounds-unlike-end
slice_bounds-unlike-end c = omega (arith, here (goal.at.slice_bounds-unlike-end c).After-first_digit-start)

pub overflow_add-result : goal.overflow_add-result
overflow_add-result c =
    let turn = here (goal.at.overflow_add-result c).After-first_digit-start in
    omega (arith, turn, in_width _ c.requires.0 _ c.requires.1 _ _ _ c.loop-q-test.true turn.begins c.unlike.ensures c.in-Some.is)

pub returns-in-Some : goal.returns-in-Some
returns-in-Some c =
    hit _ c.requires.0 _ c.requires.1 _ _ _ c.loop-q-test.true (here (goal.at.returns-in-Some c).After-first_digit-start).begins c.loop-q.invariant c.unlike.ensures c.in-Some.is

pub loop-q-preserved : goal.loop-q-preserved
loop-q-preserved c =
    pass _ c.requires.0 _ c.requires.1 _ _ c.loop-q-test.true (here (goal.at.loop-q-preserved c).After-first_digit-start).begins c.loop-q.invariant c.unlike.ensures c.in_default.is

-- all groups may stand
groups_stand : (c : After-loop-q) → Every (stands c.args.np c.args.frame.now) 288
groups_stand c =
    let all : c.loop-q.q ≡ c.args.np = omega arith in
    let whole : width c.args.np * c.loop-q.q ≡ 288 = rw all (groups _ c.requires.0).whole in
    rw whole at c.loop-q.invariant

pub overflow_add-result-2 : goal.overflow_add-result-2
overflow_add-result-2 c = omega (arith, in_last _ c.requires.0 _ c.requires.1 _ c.other.ensures c.in_ok-i.was)

pub returns-in_err-i : goal.returns-in_err-i
returns-in_err-i c =
    let told = last _ c.requires.0 _ c.requires.1 (groups_stand (goal.at.returns-in_err-i c).After-loop-q) c.other.ensures in
    rw c.from_residual.ensures (rw c.in_err-i.was at told)

pub returns : goal.returns
returns c =
    let told = last _ c.requires.0 _ c.requires.1 (groups_stand (goal.at.returns c).After-loop-q) c.other.ensures in
    rw c.in_ok-i.was at told
