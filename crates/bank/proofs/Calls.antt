-- The checks of the calls in terms of what the search for a slot answers, and what is known where none refused.
-- Assumes nothing.
use mathlib.Core.Path.{◌≡◌, refl, sym, ap, ◌∙◌}
use mathlib.Core.Bool.{Bool, true, false, cond, not}
use mathlib.Core.List.{List}
use Prim.Native.Nat.{ℕ, ◌+◌, ◌≤◌, ◌<◌}
use native.Mathlib.Omega.{arith}
use borrow.Author.Tests.{leb-true, eqb-true, eqb-false, eq-eqb, ne_eqb, ltb-true, ltb-false, lt-ltb, not-true}
use lib.Dec.{eqb, leb, ltb, lit<}
use lib.ListN.{length}
use Rattle.run.specs.Verdict.{Verdict}
use Rattle.run.specs.First.{Every, all, at_most}
use Rattle.run.specs.Verdicts.{done, or_else, unless, each}
use Rattle.run.proofs.Chain.{or_else_done, unless_done, each_done, or_else_refused}
use Rattle.bank.specs.Slots.{has, fetched, taken, is_number, is_length}
use Rattle.bank.specs.Plain.{store_plain, drop_plain, fetch_plain}
use Rattle.bank.specs.Layout.{slots_in, is_bank}
use Rattle.bank.specs.Answers.{Found}
use Rattle.bank.specs.Outcome.{store_verdict, drop_verdict, Find, fetch_verdict}
use Rattle.bank.specs.Exact.{Holds}
use Rattle.bank.proofs.Front.{room_low}
use Rattle.bank.proofs.Reading.{bank_holds, holds_fits}
use Rattle.bank.proofs.Split.{has_digits, Present, present, start_is, split_taken}

-- ---- a check of the bytes, and the rest of a chain, which is asked only where they are a bank
unless_bank : (bytes : List ℕ) (v w : Verdict) → (is_bank bytes ≡ true → v ≡ w) → or_else (unless (is_bank bytes) 28 0) v ≡ or_else (unless (is_bank bytes) 28 0) w
unfolding or_else unless
unless_bank bytes v w same = side (is_bank bytes) refl
  where
    side : (b : Bool) → is_bank bytes ≡ b → cond (eqb (cond b done (record { number = 28; place = 0 })).number 0) v (cond b done (record { number = 28; place = 0 }))
        ≡ cond (eqb (cond b done (record { number = 28; place = 0 })).number 0) w (cond b done (record { number = 28; place = 0 }))
    side true e = same e
    side false e = refl

-- drop's checks by the number of digits that is told: 0 where there is no such slot
module _ (bytes : List ℕ) (number : ℕ) where
  pub drop_verdict_lem : (n : ℕ) → (is_bank bytes ≡ true → n ≡ length (fetched number (slots_in bytes)))
      → or_else (unless (is_bank bytes) 28 0) (or_else (unless (is_number number) 11 0) (unless (ltb 0 n) 29 0)) ≡ drop_verdict bytes number
  unfolding drop_verdict drop_plain
  drop_verdict_lem n told =
      unless_bank bytes _ _
      (λ e.
      ap (λ (b : Bool). or_else (unless (is_number number) 11 0) (unless b 29 0))
      (ap (ltb 0) (told e) ∙ sym (has_digits number (slots_in bytes) (bank_holds bytes e).list)))

module _ (bytes : List ℕ) (number : ℕ) (found : Found) (f : Find bytes number found) (e : is_bank bytes ≡ true) where
  pub found_total : found.total ≡ taken (slots_in bytes)
  found_total = f.total_is ∙ rw e

  pub found_length : found.length ≡ length (fetched number (slots_in bytes))
  found_length = f.length_is ∙ rw e

-- ---- what is known where drop's checks passed
pub record Dropping (bytes : List ℕ) (number : ℕ) : Type 0 where
  pub bank : is_bank bytes ≡ true
  pub low : number ≤ 255
  pub there : has number (slots_in bytes) ≡ true

pub drop_done : (bytes : List ℕ) (number : ℕ) → (drop_verdict bytes number).number ≡ 0 → Dropping bytes number
unfolding drop_verdict drop_plain
drop_done bytes number h =
    let first = or_else_done _ _ h in
    let second = or_else_done _ _ first.rest in
    record {
      bank = unless_done _ 28 0 (lit< tt) first.first;
      low = leb-true _ _ (unless_done _ 11 0 (lit< tt) second.first);
      there = unless_done _ 29 0 (lit< tt) second.rest;
    }

-- .. fetch's
pub record Fetching (bytes : List ℕ) (number out_length : ℕ) : Type 0 where
  pub known : Dropping bytes number
  pub long : out_length ≡ length (fetched number (slots_in bytes))

or_else_assoc : (a b c : Verdict) → or_else (or_else a b) c ≡ or_else a (or_else b c)
unfolding or_else
or_else_assoc a b c = side (eqb a.number 0) refl
  where
    side : (t : Bool) → eqb a.number 0 ≡ t → cond (eqb (cond t b a).number 0) c (cond t b a) ≡ cond t (cond (eqb b.number 0) c b) a
    side true e = refl
    side false e = rw e

-- fetch's checks are drop's, and one more
pub fetch_drop : (bytes : List ℕ) (number out_length : ℕ) → fetch_verdict bytes number out_length ≡ or_else (drop_verdict bytes number) (unless (eqb out_length (length (fetched number (slots_in bytes)))) 3 0)
unfolding fetch_verdict fetch_plain drop_verdict
fetch_drop bytes number out_length = sym (or_else_assoc _ _ _)

pub fetch_done : (bytes : List ℕ) (number out_length : ℕ) → (fetch_verdict bytes number out_length).number ≡ 0 → Fetching bytes number out_length
fetch_done bytes number out_length h =
    let both = or_else_done _ _ (rw (fetch_drop bytes number out_length) at h) in
    record { known = drop_done bytes number both.first; long = eqb-true _ _ (unless_done _ 3 0 (lit< tt) both.rest) }

-- .. and store's
pub record Storing (bytes : List ℕ) (number : ℕ) (slot : List ℕ) : Type 0 where
  pub bank : is_bank bytes ≡ true
  pub low : is_number number ≡ true
  pub long : is_length (length slot) ≡ true
  pub digits : Every (at_most 2 slot) (length slot)
  pub new : has number (slots_in bytes) ≡ false
  pub fits : taken (slots_in bytes) + (4 + length slot) ≤ length bytes

pub store_done : (bytes : List ℕ) (number : ℕ) (slot : List ℕ) → (store_verdict bytes number slot).number ≡ 0 → Storing bytes number slot
unfolding store_verdict store_plain
store_done bytes number slot h =
    let first = or_else_done _ _ h in
    let second = or_else_done _ _ first.rest in
    let third = or_else_done _ _ second.rest in
    let fourth = or_else_done _ _ third.rest in
    let last = or_else_done _ _ fourth.rest in
    record {
      bank = unless_done _ 28 0 (lit< tt) first.first;
      low = unless_done _ 11 0 (lit< tt) second.first;
      long = unless_done _ 3 0 (lit< tt) third.first;
      digits = each_done 0 4 _ _ (lit< tt) fourth.first;
      new = not-true _ (unless_done _ 30 0 (lit< tt) last.first);
      fits = leb-true _ _ (unless_done _ 31 0 (lit< tt) last.rest);
    }

-- ---- where the slot stands that was found
pub record FoundSlot (bytes : List ℕ) (number : ℕ) (found : Found) : Type 0 where
  pub holds : Holds bytes (slots_in bytes)
  pub at_slot : Present number (slots_in bytes)
  pub start_at : found.start ≡ taken at_slot.before
  pub digits_are : found.length ≡ length at_slot.slot.digits
  pub total_told : found.total ≡ taken (slots_in bytes)
  pub within : found.start + (4 + found.length) ≤ found.total
  pub fits : found.total ≤ length bytes

pub found_slot : (bytes : List ℕ) (number : ℕ) (found : Found) → Find bytes number found → Dropping bytes number → FoundSlot bytes number found
found_slot bytes number found f d =
    let h = bank_holds bytes d.bank in
    let p = present number (slots_in bytes) d.there in
    let start : found.start ≡ taken p.before = f.start_is ∙ rw d.bank (start_is h p) in
    let digits : found.length ≡ length p.slot.digits = found_length bytes number found f d.bank ∙ ap length p.fetched_is in
    let all = found_total bytes number found f d.bank in
    record {
      holds = h;
      at_slot = p;
      start_at = start;
      digits_are = digits;
      total_told = all;
      within = omega (arith, split_taken h p);
      fits = omega (arith, holds_fits h);
    }
