-- docs/RULES.md, 'Bank': the layout and the plain list of slots say the same. Each statement is proved in proofs/Exact.antt under its name in small letters.
-- Assumes nothing.
use Rattle.std.specs.Prelude.{ℕ, ◌+◌, ◌-◌, ◌≤◌, ◌<◌, ◌≡◌, true, false, List, [], ◌∷◌, ◌↔◌, length, take}
use Rattle.run.specs.Verdict.{Verdict}
use Rattle.run.specs.Refusals.{bank_refused, room_refused}
use Rattle.run.specs.Verdicts.{refused, leaves, Narrow}
use Rattle.run.specs.Written.{over}
use Rattle.bank.specs.Slots.{Slot, fetched, taken, is_list}
use Rattle.bank.specs.Plain.{store_plain, drop_plain, fetch_plain, Call, empties, stores, drops, after, after_all}
use Rattle.bank.specs.Layout.{layout, total_in, slots_in, is_room, is_bank}
use Rattle.bank.specs.Answers.{Counted, Found}
use Rattle.bank.specs.Outcome.{empty_verdict, Empty, store_verdict, Store, drop_verdict, Find, Drop, Length, fetch_verdict, Fetch, room_verdict, Room}

-- bytes hold a list of slots: a bank can hold it, and its layout stands in front
pub record Holds (bytes : List ℕ) (slots : List Slot) : Type 0 where
  pub room : is_room (length bytes) ≡ true
  pub list : is_list slots ≡ true
  pub laid : take (taken slots) bytes ≡ layout slots

-- the layout is a bijection between the lists that fit and what it reads
pub record Bijection : Type 0 where
  -- written, then read
  pub written_read : (slots : List Slot) (bytes : List ℕ) → is_list slots ≡ true → is_room (length bytes) ≡ true → taken slots ≤ length bytes
      → (is_bank (over (layout slots) bytes) ≡ true) × (slots_in (over (layout slots) bytes) ≡ slots)
  -- read, then written
  pub read_written : (bytes : List ℕ) → is_bank bytes ≡ true → over (layout (slots_in bytes)) bytes ≡ bytes
  -- bytes are a bank exactly when they hold some list, of which there is one
  pub accepts : (bytes : List ℕ) → (is_bank bytes ≡ true) ↔ ((slots : List Slot) × Holds bytes slots)
  pub one_list : (bytes : List ℕ) (slots others : List Slot) → Holds bytes slots → Holds bytes others → slots ≡ others
  -- the total that the header gives is that of the list
  pub total_is : (bytes : List ℕ) → is_bank bytes ≡ true → total_in bytes ≡ taken (slots_in bytes)

-- bytes of the same length that hold a list
pub record Keeps (bank bank_after : List ℕ) (slots : List Slot) : Type 0 where
  pub sized : length bank_after ≡ length bank
  pub holds : Holds bank_after slots

-- each call on a bank is the plain list's, seen through the layout; for all bytes, also for those that no call made
pub record Seen : Type 0 where
  pub store : (bank : List ℕ) (number : ℕ) (slot : List ℕ) (answer : Verdict) (bank_after : List ℕ) → Store bank number slot answer bank_after → is_bank bank ≡ true
      → (answer ≡ store_plain (length bank) (slots_in bank) number slot) × Keeps bank bank_after (after (length bank) (slots_in bank) (stores number slot))
  pub drop : (bank : List ℕ) (number : ℕ) (answer : Verdict) (bank_after : List ℕ) → Drop bank number answer bank_after → is_bank bank ≡ true
      → (answer ≡ drop_plain (slots_in bank) number) × Keeps bank bank_after (after (length bank) (slots_in bank) (drops number))
  pub empty : (bank : List ℕ) (answer : Verdict) (bank_after : List ℕ) → Empty bank answer bank_after → is_room (length bank) ≡ true
      → (answer.number ≡ 0) × Keeps bank bank_after []
  pub fetch : (bank : List ℕ) (number : ℕ) (out : List ℕ) (answer : Verdict) (out_after : List ℕ) → Fetch bank number out answer out_after → is_bank bank ≡ true
      → (answer ≡ fetch_plain (slots_in bank) number (length out)) × (out_after ≡ leaves (fetch_plain (slots_in bank) number (length out)) (fetched number (slots_in bank)) out)
  pub length_of : (bank : List ℕ) (number : ℕ) (answer : Counted) → Length bank number answer → is_bank bank ≡ true
      → (answer.verdict ≡ drop_plain (slots_in bank) number) × (answer.count ≡ leaves (drop_plain (slots_in bank) number) (length (fetched number (slots_in bank))) 0)
  pub room : (bank : List ℕ) (answer : Counted) → Room bank answer → is_bank bank ≡ true → (answer.verdict.number ≡ 0) × (answer.count + taken (slots_in bank) ≡ length bank)

-- .. and bytes that are no bank are refused as such, and left as they were
pub record Unseen : Type 0 where
  pub store : (bank : List ℕ) (number : ℕ) (slot : List ℕ) (answer : Verdict) (bank_after : List ℕ) → Store bank number slot answer bank_after → is_bank bank ≡ false
      → (answer ≡ refused bank_refused 0) × (bank_after ≡ bank)
  pub drop : (bank : List ℕ) (number : ℕ) (answer : Verdict) (bank_after : List ℕ) → Drop bank number answer bank_after → is_bank bank ≡ false
      → (answer ≡ refused bank_refused 0) × (bank_after ≡ bank)
  pub fetch : (bank : List ℕ) (number : ℕ) (out : List ℕ) (answer : Verdict) (out_after : List ℕ) → Fetch bank number out answer out_after → is_bank bank ≡ false
      → (answer ≡ refused bank_refused 0) × (out_after ≡ out)
  pub length_of : (bank : List ℕ) (number : ℕ) (answer : Counted) → Length bank number answer → is_bank bank ≡ false → (answer.verdict ≡ refused bank_refused 0) × (answer.count ≡ 0)
  pub room : (bank : List ℕ) (answer : Counted) → Room bank answer → is_bank bank ≡ false → (answer.verdict ≡ refused bank_refused 0) × (answer.count ≡ 0)

-- ---- any sequence of calls
-- a call that was made, refused or not, on the bytes of a bank, and the bytes that it left
pub data Made (bank : List ℕ) : Call → List ℕ → Type 0 where
  emptied : (answer : Verdict) (bank_after : List ℕ) → Empty bank answer bank_after → Made bank empties bank_after
  stored_in : (number : ℕ) (slot : List ℕ) (answer : Verdict) (bank_after : List ℕ) → Store bank number slot answer bank_after → Made bank (stores number slot) bank_after
  dropped : (number : ℕ) (answer : Verdict) (bank_after : List ℕ) → Drop bank number answer bank_after → Made bank (drops number) bank_after

-- .. and one behind the other
pub data AllMade : List ℕ → List Call → List ℕ → Type 0 where
  none : (bank : List ℕ) → AllMade bank [] bank
  more : (bank : List ℕ) (call : Call) (next : List ℕ) (calls : List Call) (last : List ℕ) → Made bank call next → AllMade next calls last → AllMade bank (call ∷ calls) last

-- after any sequence of calls, refused ones among them, from a bank that was emptied: a fetch gives what the plain list of those calls gives, and the total taken is that of the slots
-- that the list still has
pub record Told (n : ℕ) (calls : List Call) (bank : List ℕ) : Type 0 where
  pub sized : length bank ≡ n
  pub holds : Holds bank (after_all n [] calls)
  pub total_is : total_in bank ≡ taken (after_all n [] calls)
  pub fetches : (number : ℕ) (out : List ℕ) (answer : Verdict) (out_after : List ℕ) → Fetch bank number out answer out_after
      → (answer ≡ fetch_plain (after_all n [] calls) number (length out))
      × (out_after ≡ leaves (fetch_plain (after_all n [] calls) number (length out)) (fetched number (after_all n [] calls)) out)

abbrev pub AfterCalls : Type 0
AfterCalls =
    (buffer : List ℕ) (answer : Verdict) (bank : List ℕ) (calls : List Call) (last : List ℕ) → Empty buffer answer bank → answer.number ≡ 0 → AllMade bank calls last
    → Told (length buffer) calls last

-- room that was dropped can be taken again: a store of a slot no longer than the dropped one is not refused for room
abbrev pub RoomAgain : Type 0
RoomAgain =
    (bank : List ℕ) (number : ℕ) (answer : Verdict) (bank_after : List ℕ) → Drop bank number answer bank_after → answer.number ≡ 0
    → (other : ℕ) (slot : List ℕ) → length slot ≤ length (fetched number (slots_in bank)) → (store_verdict bank_after other slot).number ≡ room_refused → ⊥

-- each promise allows one outcome
pub record Once : Type 0 where
  pub empty : (bank : List ℕ) (a b : Verdict) (x y : List ℕ) → Empty bank a x → Empty bank b y → (a ≡ b) × (x ≡ y)
  pub store : (bank : List ℕ) (number : ℕ) (slot : List ℕ) (a b : Verdict) (x y : List ℕ) → Store bank number slot a x → Store bank number slot b y → (a ≡ b) × (x ≡ y)
  pub drop : (bank : List ℕ) (number : ℕ) (a b : Verdict) (x y : List ℕ) → Drop bank number a x → Drop bank number b y → (a ≡ b) × (x ≡ y)
  pub fetch : (bank : List ℕ) (number : ℕ) (out : List ℕ) (a b : Verdict) (x y : List ℕ) → Fetch bank number out a x → Fetch bank number out b y → (a ≡ b) × (x ≡ y)
  pub length_of : (bank : List ℕ) (number : ℕ) (a b : Counted) → Length bank number a → Length bank number b → a ≡ b
  pub room : (bank : List ℕ) (a b : Counted) → Room bank a → Room bank b → a ≡ b

-- .. and so does that of the part which looks for a slot
pub record PartsOnce : Type 0 where
  pub find : (bank : List ℕ) (number : ℕ) (a b : Found) → Find bank number a → Find bank number b → a ≡ b

-- number, place and value fit the fields of a packed answer
pub record Packs : Type 0 where
  pub empty_narrow : (n : ℕ) → Narrow (empty_verdict n)
  pub store_narrow : (bank : List ℕ) (number : ℕ) (slot : List ℕ) → Narrow (store_verdict bank number slot)
  pub drop_narrow : (bank : List ℕ) (number : ℕ) → Narrow (drop_verdict bank number)
  pub fetch_narrow : (bank : List ℕ) (number out_length : ℕ) → Narrow (fetch_verdict bank number out_length)
  pub room_narrow : (bank : List ℕ) → Narrow (room_verdict bank)
  pub length_small : (bank : List ℕ) (number : ℕ) → leaves (drop_verdict bank number) (length (fetched number (slots_in bank))) 0 < 65536
  pub room_small : (bank : List ℕ) → leaves (room_verdict bank) (length bank - taken (slots_in bank)) 0 < 65536
