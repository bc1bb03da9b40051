-- `bank_find::start_of` meets its contract: the laws of the search from slot to slot.
use mathlib.Core.Path.{sym, ◌∙◌, ap}
use Prim.Native.Nat.{ℕ, ◌+◌, ◌-◌}
use native.Mathlib.Omega.{arith}
use Rattle.bank_find.proofs.Seek.{Seeking, seek_start, seek_within, seek_fits, seek_end, seek_next, number_is, length_is, seek_found, seek_more}
use Rattle.bank.proofs.Told.{start_there, start_nowhere}
use Rattle.bank_find.proofs.start_of.Goals as goal
use Rattle.bank_find.proofs.start_of.Goals.{After-front_length}

-- the slot is passed
more : (c : After-front_length)
    → Seeking c.args.bank.now c.args.number
    c.args.total (c.loop-at.at + (4 + c.front_length.result))
more c =
    let inv = c.loop-at.invariant in
    let next = seek_next inv c.loop-at-test.true in
    seek_more inv c.loop-at-test.true next _ (ap (λ (n : ℕ). 4 + n) (c.front_length.ensures ∙ length_is inv c.loop-at-test.true next))
    (λ e. c.if-bank-at.false (number_is inv c.loop-at-test.true next ∙ e))

pub loop-at-init : goal.loop-at-init
loop-at-init c = seek_start _ _ _ c.requires.0 c.requires.1

pub bounds-bank-at : goal.bounds-bank-at
bounds-bank-at c = omega (arith, seek_fits c.loop-at.invariant)

pub returns-then-bank-at : goal.returns-then-bank-at
returns-then-bank-at c =
    let inv = c.loop-at.invariant in
    let next = seek_next inv c.loop-at-test.true in
    let f = seek_found inv c.loop-at-test.true next (sym (number_is inv c.loop-at-test.true next) ∙ c.if-bank-at.true) in
    start_there _ _ f.0 f.1

pub slice_bounds-front_length-start : goal.slice_bounds-front_length-start
slice_bounds-front_length-start c = omega (arith, seek_fits c.loop-at.invariant)

pub slice_bounds-front_length-end : goal.slice_bounds-front_length-end
slice_bounds-front_length-end c = omega (arith, seek_fits c.loop-at.invariant)

pub overflow_add-at : goal.overflow_add-at
overflow_add-at c = let w = seek_within (more (goal.at.overflow_add-at c).After-front_length) in let f = seek_fits (more (goal.at.overflow_add-at c).After-front_length) in omega arith

pub overflow_add-at-in-loop-at : goal.overflow_add-at-in-loop-at
overflow_add-at-in-loop-at c = let w = seek_within (more (goal.at.overflow_add-at-in-loop-at c).After-front_length) in let f = seek_fits (more (goal.at.overflow_add-at-in-loop-at c).After-front_length) in omega arith

pub loop-at-smaller : goal.loop-at-smaller
loop-at-smaller c = let w = seek_within (more (goal.at.loop-at-smaller c).After-front_length) in omega arith

pub loop-at-preserved : goal.loop-at-preserved
loop-at-preserved c = more (goal.at.loop-at-preserved c).After-front_length

pub returns : goal.returns
returns c = start_nowhere _ _ (seek_end c.loop-at.invariant c.loop-at-test.false)
