-- `bank_check::is_bank` meets its contract: the loop is the walk of proofs/Walk.antt.
use mathlib.Core.Path.{◌≡◌, sym, ◌∙◌}
use Prim.Native.Nat.{◌-◌, ◌<◌}
use native.Mathlib.Omega.{arith}
use lib.ListN.{take, drop}
use Rattle.bank.specs.Outcome.{head_total, front_size}
use Rattle.bank.proofs.Nonzero.{is_none, is_some, nonzero_not}
use Rattle.bank_check.proofs.Whole.{bank_none, walking_start, walking_end, walking_none, walking_seen, size_fits, walking_next}
use Rattle.bank_check.proofs.is_bank.Goals as goal
use Rattle.bank_check.proofs.is_bank.Goals.{In-Some, In-Some-front_size}

-- the total that the header gives, and the bytes of the slot at the loop's place
headed : (c : In-Some) → (c.in-Some.total ≡ head_total c.args.bank.now) × (0 < c.in-Some.total)
headed c = is_some (sym c.in-Some.is ∙ c.head_total.ensures)

sized : (c : In-Some-front_size) → (c.in-Some-front_size.size ≡ front_size (take (c.in-Some.total - c.loop-at.at) (drop c.loop-at.at c.args.bank.now))) × (0 < c.in-Some-front_size.size)
sized c = is_some (sym c.in-Some-front_size.is ∙ c.front_size.ensures)

there : (c : In-Some-front_size) → front_size (take (c.in-Some.total - c.loop-at.at) (drop c.loop-at.at c.args.bank.now)) ≡ 0 → ⊥
there c e = nonzero_not (sym c.in-Some-front_size.is ∙ c.front_size.ensures) e

pub returns-in_default : goal.returns-in_default
returns-in_default c = sym (bank_none _ (is_none (sym c.in_default.is ∙ c.head_total.ensures)))

pub loop-at-init : goal.loop-at-init
loop-at-init c = let h = headed (goal.at.loop-at-init c).In-Some in walking_start _ _ h.0 (λ z. let w : ⊥ = omega arith in w)

pub returns-in_default-front_size : goal.returns-in_default-front_size
returns-in_default-front_size c =
    sym (walking_none c.loop-at.invariant c.loop-at-test.true (is_none (sym c.in_default-front_size.is ∙ c.front_size.ensures)))

pub returns-then-seen-number : goal.returns-then-seen-number
returns-then-seen-number c =
    sym (walking_seen c.loop-at.invariant c.loop-at-test.true (there (goal.at.returns-then-seen-number c).In-Some-front_size) c.if-seen-number.true)

pub overflow_add-at : goal.overflow_add-at
overflow_add-at c =
    let at_slot = (goal.at.overflow_add-at c).In-Some-front_size in
    let e = (sized at_slot).0 in
    let fits = size_fits c.loop-at.invariant c.loop-at-test.true (there at_slot) in
    let all = c.loop-at.invariant.fits in
    record { fits = omega arith }

pub loop-at-smaller : goal.loop-at-smaller
loop-at-smaller c = let e = (sized (goal.at.loop-at-smaller c).In-Some-front_size).1 in omega arith

pub loop-at-preserved : goal.loop-at-preserved
loop-at-preserved c =
    let at_slot = (goal.at.loop-at-preserved c).In-Some-front_size in
    walking_next c.loop-at.invariant c.loop-at-test.true (there at_slot) _ (sized at_slot).0 c.if-seen-number.false

pub returns : goal.returns
returns c = sym (walking_end c.loop-at.invariant c.loop-at-test.false)
