-- `bank_store::store` meets its contract: the slot is written behind the others, and the header gives the new total.
use mathlib.Core.Path.{◌≡◌, refl, sym, ◌∙◌}
use native.Mathlib.Omega.{arith}
use mathlib.Core.List.{List, [], ◌∷◌, ◌++◌}
use Prim.Native.Nat.{ℕ, ◌+◌, ◌-◌, ◌≤◌}
use borrow.Author.Tests.{leb-true}
use borrow.Rule.Slice.PartMut.{put_mid, mid_len}
use lib.ListN.{length}
use Rattle.run.specs.Verdicts.{done}
use Rattle.run.specs.Written.{over}
use Rattle.run.proofs.Answers.{stops, goes_on, left, handed, written}
use Rattle.run.proofs.Chain.{number_0}
use Rattle.bank.specs.Slots.{taken}
use Rattle.bank.specs.Layout.{slot_bytes, head, layout, slots_in}
use Rattle.bank.specs.Outcome.{store_verdict}
use Rattle.bank.proofs.Front.{length_low, room_low}
use Rattle.bank.proofs.Reading.{bank_holds}
use Rattle.bank.proofs.Calls.{Storing, store_done}
use Rattle.bank.proofs.Change.{stored_bytes}
use Rattle.bank.proofs.Told.{looked_total, looked_done, looked_refused}
use Rattle.bank_store.proofs.store.Goals as goal
use Rattle.bank_store.proofs.store.Goals.{In_ok-check}

done_is : (c : In_ok-check) → done ≡ store_verdict c.args.bank.now c.args.number c.args.slot.now
unfolding store_verdict
done_is c = goes_on (looked_done _ _ c.in_ok-there.ensures) c.in_ok-check.ensures

storing : (c : In_ok-check) → Storing c.args.bank.now c.args.number c.args.slot.now
storing c = store_done _ _ _ (number_0 (sym (done_is c)))

total_is : (c : In_ok-check) → c.in_ok-there.there.total ≡ taken (slots_in c.args.bank.now)
total_is c = looked_total _ _ c.in_ok-there.ensures

-- the bytes of the bank with the slot behind the others
slot_written : (bytes : List ℕ) (number : ℕ) (slot : List ℕ) → Storing bytes number slot → (total : ℕ) → total ≡ taken (slots_in bytes) → (ys : List ℕ)
    → ys ≡ slot_bytes (record { number = number; digits = slot })
    → over (head (total + (4 + length slot))) (put_mid total (total + (4 + length slot) - total) bytes ys)
    ≡ over (layout (slots_in bytes ++ record { number = number; digits = slot } ∷ [])) bytes
slot_written bytes number slot s total t ys is =
    rw (t, is)
    (stored_bytes (bank_holds bytes s.bank) (record { number = number; digits = slot }) (taken (slots_in bytes) + (4 + length slot)) refl s.fits)

pub returns-in_err-there : goal.returns-in_err-there
unfolding store_verdict
returns-in_err-there c =
    let v = stops _ _ _ c.from_residual.ensures.1 (looked_refused _ _ c.in_err-there.ensures) in
    record { verdict_is = v; bank_is = left _ _ _ (sym (handed _ _ c.from_residual.ensures.1) ∙ v) }

pub returns-in_err-check : goal.returns-in_err-check
unfolding store_verdict
returns-in_err-check c =
    let v = goes_on (looked_done _ _ c.in_ok-there.ensures) c.in_err-check.ensures in
    record { verdict_is = handed _ _ c.from_residual-in_err-check.ensures.1 ∙ v; bank_is = left _ _ _ v }

pub overflow_add-end-2 : goal.overflow_add-end-2
overflow_add-end-2 c = let s = storing (goal.at.overflow_add-end-2 c).In_ok-check in let f = s.fits in let t = total_is (goal.at.overflow_add-end-2 c).In_ok-check in grind arith

pub slice_bounds-write_slot-end : goal.slice_bounds-write_slot-end
slice_bounds-write_slot-end c = let s = storing (goal.at.slice_bounds-write_slot-end c).In_ok-check in let f = s.fits in let t = total_is (goal.at.slice_bounds-write_slot-end c).In_ok-check in omega arith

pub overflow_cast-number : goal.overflow_cast-number
overflow_cast-number c =
    let low : c.args.number ≤ 255 = leb-true _ _ (storing (goal.at.overflow_cast-number c).In_ok-check).low in
    record { fits = omega arith }

pub write_slot-requires : goal.write_slot-requires
write_slot-requires c =
    let s = storing (goal.at.write_slot-requires c).In_ok-check in
    let f = s.fits in
    let t = total_is (goal.at.write_slot-requires c).In_ok-check in
    let total = c.in_ok-there.there.total in
    let n = mid_len total (total + (4 + length c.args.slot.now)) c.args.bank.now (omega arith) in
    ((length_low _ s.long).1, omega arith)

pub overflow_cast-end : goal.overflow_cast-end
overflow_cast-end c =
    let s = storing (goal.at.overflow_cast-end c).In_ok-check in
    let f = s.fits in
    let t = total_is (goal.at.overflow_cast-end c).In_ok-check in
    record { fits = omega (arith, room_low _ (bank_holds _ s.bank).room) }

pub returns : goal.returns
returns c =
    let k = (goal.at.returns c).In_ok-check in
    record {
      verdict_is = done_is k;
      bank_is = written _ _ (done_is k) (c.put_head.ensures ∙ slot_written _ _ _ (storing k) _ (total_is k) _ c.write_slot.ensures);
    }
