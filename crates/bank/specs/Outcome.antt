-- docs/RULES.md, 'Bank': what each call answers and leaves in each lent run, for all bytes. What a call leaves in the bank is the layout of the new list over the old bytes:
-- behind the new total they are what they were.
-- Assumes nothing.
use Rattle.std.specs.Prelude.{ℕ, zero, suc, ◌+◌, ◌-◌, ◌≡◌, cond, ◌&&◌, List, [], Option, Some, None, Result, Ok, Err, leb, length}
use Rattle.run.specs.Verdict.{Verdict}
use Rattle.run.specs.Refusals.{bank_refused}
use Rattle.run.specs.Verdicts.{or_else, unless, leaves}
use Rattle.run.specs.Written.{over}
use Rattle.run.specs.declared.refusal.Reason.TheVariants.{Bank}
use Rattle.run.specs.declared.refusal.Refusal.{Refusal}
use Rattle.bank.specs.declared.Looked.{Looked}
use Rattle.bank.specs.Slots.{has, stored, fetched, without, taken, is_slot}
use Rattle.bank.specs.Answers.{Counted, Found}
use Rattle.bank.specs.Plain.{store_plain, drop_plain, fetch_plain}
use Rattle.bank.specs.Layout.{slot_bytes, head, layout, length_in, first_slot, total_in, slots_in, begins, is_room, is_bank, place_of}

-- what a part answers that has a number to tell, which is not 0, or none
abbrev pub nonzero : ℕ → Option ℕ
nonzero zero = None
nonzero (suc n) = Some (suc n)

-- the part that looks at the header: the total that it gives, and 0 where it is none
unfoldable pub head_total : List ℕ → ℕ
head_total bytes =
    cond (is_room (length bytes) && (begins (head (total_in bytes)) bytes && (leb 8 (total_in bytes) && leb (total_in bytes) (length bytes)))) (total_in bytes) 0

-- the parts that look at one slot: the number of digits that the front of a run gives, and 0 where it has not the four bytes in front of a slot's digits;
-- the bytes that the slot at the front of a run takes, and 0 where no slot stands there
unfoldable pub front_length : List ℕ → ℕ
front_length s = cond (leb 4 (length s)) (length_in s) 0

unfoldable pub front_size : List ℕ → ℕ
front_size s = cond (is_slot (first_slot s) && begins (slot_bytes (first_slot s)) s) (4 + length_in s) 0

-- the parts that look through a bank: the total taken; and with it where the slot with a number begins, if there is one; 28 where the bytes are no bank
abbrev pub no_bank : Refusal
no_bank = record { reason = Bank; place = 0 }

unfoldable pub bank_total : List ℕ → Result ℕ Refusal
bank_total bank = cond (is_bank bank) (Ok (taken (slots_in bank))) (Err no_bank)

unfoldable pub looked : List ℕ → ℕ → Result Looked Refusal
looked bank number =
    cond (is_bank bank) (Ok (record { total = taken (slots_in bank); start = cond (has number (slots_in bank)) (Some (place_of number (slots_in bank))) None })) (Err no_bank)

-- empty: 28 for the buffer's length alone
unfoldable pub empty_verdict : ℕ → Verdict
empty_verdict bankLength = unless (is_room bankLength) bank_refused 0

pub record Empty (bank : List ℕ) (answer : Verdict) (bank_after : List ℕ) : Type 0 where
  pub verdict_is : answer ≡ empty_verdict (length bank)
  pub bank_is : bank_after ≡ leaves (empty_verdict (length bank)) (over (layout []) bank) bank

-- store, drop and the others: 28, and then the checks of the plain list that the bytes read as
unfoldable pub store_verdict : List ℕ → ℕ → List ℕ → Verdict
store_verdict bank number slot = or_else (unless (is_bank bank) bank_refused 0) (store_plain (length bank) (slots_in bank) number slot)

pub record Store (bank : List ℕ) (number : ℕ) (slot : List ℕ) (answer : Verdict) (bank_after : List ℕ) : Type 0 where
  pub verdict_is : answer ≡ store_verdict bank number slot
  pub bank_is :
      bank_after
      ≡ leaves (store_verdict bank number slot) (over (layout (stored (slots_in bank) (record { number = number; digits = slot }))) bank) bank

unfoldable pub drop_verdict : List ℕ → ℕ → Verdict
drop_verdict bank number = or_else (unless (is_bank bank) bank_refused 0) (drop_plain (slots_in bank) number)

-- the part that looks for a slot: drop's checks, the total taken, where the slot with the number begins, and how many digits it has (none where there is no such slot); all 0 where the
-- bytes are no bank
pub record Find (bank : List ℕ) (number : ℕ) (answer : Found) : Type 0 where
  pub verdict_is : answer.verdict ≡ drop_verdict bank number
  pub total_is : answer.total ≡ cond (is_bank bank) (taken (slots_in bank)) 0
  pub start_is : answer.start ≡ cond (is_bank bank) (place_of number (slots_in bank)) 0
  pub length_is : answer.length ≡ cond (is_bank bank) (length (fetched number (slots_in bank))) 0

pub record Drop (bank : List ℕ) (number : ℕ) (answer : Verdict) (bank_after : List ℕ) : Type 0 where
  pub verdict_is : answer ≡ drop_verdict bank number
  pub bank_is : bank_after ≡ leaves (drop_verdict bank number) (over (layout (without number (slots_in bank))) bank) bank

pub record Length (bank : List ℕ) (number : ℕ) (answer : Counted) : Type 0 where
  pub verdict_is : answer.verdict ≡ drop_verdict bank number
  pub count_is : answer.count ≡ leaves (drop_verdict bank number) (length (fetched number (slots_in bank))) 0

unfoldable pub fetch_verdict : List ℕ → ℕ → ℕ → Verdict
fetch_verdict bank number outLength = or_else (unless (is_bank bank) bank_refused 0) (fetch_plain (slots_in bank) number outLength)

pub record Fetch (bank : List ℕ) (number : ℕ) (out : List ℕ) (answer : Verdict) (out_after : List ℕ) : Type 0 where
  pub verdict_is : answer ≡ fetch_verdict bank number (length out)
  pub out_is : out_after ≡ leaves (fetch_verdict bank number (length out)) (fetched number (slots_in bank)) out

-- room: 28; the buffer's length less the total taken
unfoldable pub room_verdict : List ℕ → Verdict
room_verdict bank = unless (is_bank bank) bank_refused 0

pub record Room (bank : List ℕ) (answer : Counted) : Type 0 where
  pub verdict_is : answer.verdict ≡ room_verdict bank
  pub count_is : answer.count ≡ leaves (room_verdict bank) (length bank - taken (slots_in bank)) 0
