-- `bank_read::fetch` meets its contract: the slot's digits are copied from where the search found them.
use mathlib.Core.Path.{◌≡◌, sym, ap, ◌∙◌}
use mathlib.Core.List.{List}
use Prim.Native.Nat.{ℕ, ◌+◌, ◌-◌}
use native.Mathlib.Omega.{arith}
use Rattle.std.specs.Prelude.{Ok}
use lib.ListN.{length, take, drop}
use Rattle.run.specs.Verdicts.{done, or_else, unless}
use Rattle.run.proofs.Answers.{stops, goes_on, handed, left, written}
use Rattle.run.proofs.Chain.{number_0}
use Rattle.run.proofs.Lent.{part_width}
use Rattle.run.proofs.Over.{over_whole}
use Rattle.bank.specs.Answers.{Found, found_of}
use Rattle.bank.specs.Slots.{fetched}
use Rattle.bank.specs.Layout.{slots_in}
use Rattle.bank.specs.Outcome.{fetch_verdict, drop_verdict}
use Rattle.bank.proofs.Front.{room_low}
use Rattle.bank.proofs.Calls.{fetch_drop, fetch_done, drop_done, found_length, FoundSlot, found_slot}
use Rattle.bank.proofs.Split.{slot_there}
use Rattle.bank_read.proofs.fetch.Goals as goal
use Rattle.bank_read.proofs.fetch.Goals.{In_ok-found, In_ok-require}

-- the digits that the search found
digits_there : (bytes : List ℕ) (number : ℕ) (found : Found) → FoundSlot bytes number found
    → take (found.start + 4 + found.length - (found.start + 4)) (drop (found.start + 4) bytes) ≡ fetched number (slots_in bytes)
digits_there bytes number found s =
    let p = s.at_slot in
    ap (λ (n : ℕ). take n (drop (found.start + 4) bytes)) (part_width (found.start + 4) found.length ∙ s.digits_are)
    ∙ ap (λ (n : ℕ). take (length p.slot.digits) (drop (n + 4) bytes)) s.start_at
    ∙ slot_there s.holds p
    ∙ sym p.fetched_is

facts : (c : In_ok-found) → FoundSlot c.args.bank.now c.args.number (found_of c.args.bank.now c.args.number (Ok c.in_ok-found.found))
facts c = let f = c.in_ok-found.ensures in found_slot _ _ _ f (drop_done _ _ (number_0 (sym f.verdict_is)))

-- how many digits the slot has
long : (c : In_ok-found) → c.in_ok-found.found.length ≡ length (fetched c.args.number (slots_in c.args.bank.now))
long c = let f = c.in_ok-found.ensures in found_length _ _ _ f (drop_done _ _ (number_0 (sym f.verdict_is))).bank

done_is : (c : In_ok-require) → done ≡ fetch_verdict c.args.bank.now c.args.number (length c.args.out.now)
done_is c =
    let f = c.in_ok-found.ensures in
    let n = found_length _ _ _ f (drop_done _ _ (number_0 (sym f.verdict_is))).bank in
    goes_on f.verdict_is (c.in_ok-require.ensures ∙ rw n) ∙ sym (fetch_drop _ _ _)

pub returns-in_err-found : goal.returns-in_err-found
returns-in_err-found c =
    let v = stops _ _ _ c.from_residual.ensures.1 c.in_err-found.ensures.verdict_is ∙ sym (fetch_drop _ _ _) in
    record { verdict_is = v; out_is = left _ _ _ (sym (handed _ _ c.from_residual.ensures.1) ∙ v) }

pub returns-in_err-require : goal.returns-in_err-require
returns-in_err-require c =
    let v = goes_on c.in_ok-found.ensures.verdict_is (c.in_err-require.ensures ∙ rw (long (goal.at.returns-in_err-require c).In_ok-found)) ∙ sym (fetch_drop _ _ _) in
    record { verdict_is = handed _ _ c.from_residual-in_err-require.ensures.1 ∙ v; out_is = left _ _ _ v }

pub overflow_add-start : goal.overflow_add-start
overflow_add-start c = let s = facts (goal.at.overflow_add-start c).In_ok-found in let w = s.within in let f = s.fits in grind (arith, room_low _ s.holds.room)

pub overflow_add-start-2 : goal.overflow_add-start-2
overflow_add-start-2 c = let s = facts (goal.at.overflow_add-start-2 c).In_ok-found in let w = s.within in let f = s.fits in grind (arith, room_low _ s.holds.room)

pub slice_bounds-copy-end : goal.slice_bounds-copy-end
slice_bounds-copy-end c = let s = facts (goal.at.slice_bounds-copy-end c).In_ok-found in let w = s.within in let f = s.fits in omega arith

pub returns : goal.returns
returns c =
    let v = done_is (goal.at.returns c).In_ok-require in
    let there = digits_there _ _ _ (facts (goal.at.returns c).In_ok-found) in
    let same = (fetch_done _ _ _ (number_0 (sym v))).long ∙ ap length (sym there) in
    record { verdict_is = v; out_is = written _ _ v (c.copy.ensures ∙ over_whole _ _ (sym same) ∙ there) }
