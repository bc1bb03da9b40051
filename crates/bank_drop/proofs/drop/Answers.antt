-- `bank_drop::drop` meets its contract: the gap that the slot leaves is closed, and the header gives the new total.
use mathlib.Core.Path.{◌≡◌, sym, ap, ◌∙◌}
use mathlib.Core.List.{List}
use Prim.Native.Nat.{ℕ, ◌+◌, ◌-◌, ◌≤◌}
use native.Mathlib.Omega.{arith}
use lib.ListN.{length, drop}
use Rattle.std.specs.Prelude.{Ok}
use Rattle.std.specs.List.{copy_within}
use Rattle.run.specs.Written.{over}
use Rattle.run.proofs.Answers.{handed, left, written}
use Rattle.run.proofs.Chain.{number_0}
use Rattle.bank.specs.Answers.{Found, found_of}
use Rattle.bank.specs.Slots.{without}
use Rattle.bank.specs.Layout.{head, layout, slots_in}
use Rattle.bank.proofs.Front.{room_low}
use Rattle.bank.proofs.Calls.{drop_done, FoundSlot, found_slot}
use Rattle.bank.proofs.Change.{dropped_bytes}
use Rattle.bank_drop.proofs.drop.Goals as goal
use Rattle.bank_drop.proofs.drop.Goals.{In_ok-found}

facts : (c : In_ok-found) → FoundSlot c.args.bank.now c.args.number (found_of c.args.bank.now c.args.number (Ok c.in_ok-found.found))
facts c = let f = c.in_ok-found.ensures in found_slot _ _ _ f (drop_done _ _ (number_0 (sym f.verdict_is)))

-- the bytes of the bank without the slot that was found
gap_closed : (bytes : List ℕ) (number : ℕ) (found : Found) → FoundSlot bytes number found
    → over (head (found.total - (4 + found.length))) (copy_within bytes (found.start + (4 + found.length)) found.total found.start) ≡ over (layout (without number (slots_in bytes))) bytes
gap_closed bytes number found s =
    rw (s.start_at, s.total_told)
    (dropped_bytes s.holds s.at_slot (4 + found.length) _ (ap (λ (n : ℕ). 4 + n) s.digits_are) (sym (omega arith)))

pub returns-in_err-found : goal.returns-in_err-found
returns-in_err-found c =
    let v = c.in_err-found.ensures.verdict_is in
    record { verdict_is = handed _ _ c.from_residual.ensures.1 ∙ v; bank_is = left _ _ _ v }

-- where the slot stands
bounds : (c : In_ok-found) → (c.in_ok-found.found.start + (4 + c.in_ok-found.found.length) ≤ c.in_ok-found.found.total) × (c.in_ok-found.found.total ≤ length c.args.bank.now) × (length c.args.bank.now ≤ 65536)
bounds c = let s = facts c in (s.within, s.fits, (room_low _ s.holds.room).1)

pub overflow_add-size : goal.overflow_add-size
overflow_add-size c = grind (arith, bounds (goal.at.overflow_add-size c).In_ok-found)

pub overflow_add-start : goal.overflow_add-start
overflow_add-start c = grind (arith, bounds (goal.at.overflow_add-start c).In_ok-found)

pub close-requires : goal.close-requires
close-requires c =
    let b = bounds (goal.at.close-requires c).In_ok-found in
    (omega arith, b.0, b.1)

pub overflow_sub-total : goal.overflow_sub-total
overflow_sub-total c = omega (arith, bounds (goal.at.overflow_sub-total c).In_ok-found)

pub overflow_cast-total : goal.overflow_cast-total
overflow_cast-total c = record { fits = omega (arith, bounds (goal.at.overflow_cast-total c).In_ok-found) }

pub returns : goal.returns
returns c =
    let v = c.in_ok-found.ensures.verdict_is in
    record { verdict_is = v; bank_is = written _ _ v (c.put_head.ensures ∙ ap (over _) c.close.ensures ∙ gap_closed _ _ _ (facts (goal.at.returns c).In_ok-found)) }
