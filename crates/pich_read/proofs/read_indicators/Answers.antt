-- `pich_read::read_indicators` meets its contract: each turn stores one indicator more.
use mathlib.Core.Path.{sym, ap, ◌∙◌}
use Prim.Native.Nat.{ℕ}
use native.Mathlib.Omega.{arith}
use lib.ListN.{get_or}
use Rattle.run.proofs.Front.{front_none, front_length, front_store, front_all}
use Rattle.pich.proofs.Laws.{Stretch, stretch, groups, indicators_length, indicator_at}
use Rattle.pich_read.proofs.read_indicators.Goals as goal
use Rattle.pich_read.proofs.read_indicators.Goals.{After-first_digit-start}

-- the indicator of a turn
here : (c : After-first_digit-start) → Stretch c.args.np c.loop-q.q c.first_digit-start.result
here c = stretch _ _ _ c.requires.0 c.loop-q-test.true c.first_digit-start.ensures

pub loop-q-init : goal.loop-q-init
loop-q-init c = front_none (indicators_length _ _ ∙ sym c.requires.2)

pub bounds-frame-start : goal.bounds-frame-start
bounds-frame-start c = omega (arith, here (goal.at.bounds-frame-start c).After-first_digit-start, (groups _ c.requires.0).wide)

pub bounds-indicators-q : goal.bounds-indicators-q
bounds-indicators-q c = omega (arith, front_length c.loop-q.invariant)

pub loop-q-preserved : goal.loop-q-preserved
loop-q-preserved c =
    front_store 0 c.loop-q.invariant (omega (arith, front_length c.loop-q.invariant))
    (ap (λ (n : ℕ). get_or c.args.frame.now n 0) (here (goal.at.loop-q-preserved c).After-first_digit-start).begins ∙ sym (indicator_at _ _ _ c.loop-q-test.true))

pub returns : goal.returns
returns c = front_all c.loop-q.invariant (omega arith)
