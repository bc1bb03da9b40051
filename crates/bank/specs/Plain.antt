-- docs/RULES.md, 'Bank': what each call answers and does on a plain list of slots, where a buffer of n bytes is to hold it. No byte is spoken of here.
-- Assumes nothing.
use Rattle.std.specs.Prelude.{ℕ, ◌+◌, not, List, [], ◌∷◌, eqb, leb, length}
use Rattle.run.specs.Verdict.{Verdict}
use Rattle.run.specs.First.{at_most}
use Rattle.run.specs.Refusals.{length_refused, digit_refused, range_refused, absent_refused, present_refused, room_refused}
use Rattle.run.specs.Verdicts.{or_else, unless, each, leaves}
use Rattle.bank.specs.Slots.{Slot, has, stored, fetched, without, taken, is_number, is_length}

-- store: 11 above 255, 3 for a slot's length, 4 above 2, 30, 31 exactly when the total taken plus the new slot plus 4 exceeds the buffer
unfoldable pub store_plain : ℕ → List Slot → ℕ → List ℕ → Verdict
store_plain n ss number slot =
    or_else (unless (is_number number) range_refused 0)
    (or_else (unless (is_length (length slot)) length_refused 0)
    (or_else (each 0 digit_refused (at_most 2 slot) (length slot))
    (or_else (unless (not (has number ss)) present_refused 0)
    (unless (leb (taken ss + (4 + length slot)) n) room_refused 0))))

-- drop, and the length of a slot: 11 above 255, 29
unfoldable pub drop_plain : List Slot → ℕ → Verdict
drop_plain ss number = or_else (unless (is_number number) range_refused 0) (unless (has number ss) absent_refused 0)

-- fetch: those, then 3 where the output has not the stored length
unfoldable pub fetch_plain : List Slot → ℕ → ℕ → Verdict
fetch_plain ss number outLength = or_else (drop_plain ss number) (unless (eqb outLength (length (fetched number ss))) length_refused 0)

-- the calls that can change a bank, as their callers make them; the others are lent it for reading
pub data Call : Type 0 where
  empties : Call
  stores : ℕ → List ℕ → Call
  drops : ℕ → Call

-- the list after a call: a call that is refused does nothing to it
unfoldable pub after : ℕ → List Slot → Call → List Slot
after n ss empties = []
after n ss (stores number slot) = leaves (store_plain n ss number slot) (stored ss (record { number = number; digits = slot })) ss
after n ss (drops number) = leaves (drop_plain ss number) (without number ss) ss

-- .. and after one call behind the other
unfoldable pub after_all : ℕ → List Slot → List Call → List Slot
after_all n ss [] = ss
after_all n ss (call ∷ calls) = after_all n (after n ss call) calls
