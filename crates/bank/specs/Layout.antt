-- docs/BANK.md, 'Layout': the bytes of a list of slots, and what bytes read as.
-- Assumes nothing.
use Rattle.std.specs.Prelude.{ℕ, zero, suc, ◌+◌, ◌-◌, ◌*◌, ◌/◌, ◌%◌, Bool, cond, ◌&&◌, List, [], ◌∷◌, ◌++◌, map, eqb, leb, length, get_or, take, drop}
use Rattle.run.specs.First.{all, agree}
use Rattle.run.specs.Fields.{joined}
use Rattle.bank.specs.Slots.{Slot, size_of, taken, is_list}

-- a slot: its number, a zero byte, the number of its digits with the high byte first, the digits
unfoldable pub slot_bytes : Slot → List ℕ
slot_bytes s = s.number ∷ 0 ∷ length s.digits / 256 ∷ length s.digits % 256 ∷ s.digits

-- one slot behind the other
unfoldable pub run : List Slot → List ℕ
run ss = joined (map slot_bytes ss)

-- the mark SLTB, and the total taken with the high byte first
unfoldable pub head : ℕ → List ℕ
head n = 83 ∷ 76 ∷ 84 ∷ 66 ∷ n / 16777216 ∷ n / 65536 % 256 ∷ n / 256 % 256 ∷ n % 256 ∷ []

unfoldable pub layout : List Slot → List ℕ
layout ss = head (taken ss) ++ run ss

-- ---- reading: the slot at the front of a run of bytes ..
unfoldable pub length_in : List ℕ → ℕ
length_in s = 256 * get_or s 2 0 + get_or s 3 0

unfoldable pub first_slot : List ℕ → Slot
first_slot s = record { number = get_or s 0 0; digits = take (length_in s) (drop 4 s) }

-- .. and the slots of all of it, each where the one before it ends; at most n are looked for
unfoldable pub slots_from : ℕ → List ℕ → List Slot
slots_from zero s = []
slots_from (suc n) [] = []
slots_from (suc n) (b ∷ s) = first_slot (b ∷ s) ∷ slots_from n (drop (4 + length_in (b ∷ s)) (b ∷ s))

-- the total that bytes 4 to 7 give, and the slots between the header and it: a slot takes more than a byte, so there are not more slots than bytes
unfoldable pub four_at : List ℕ → ℕ → ℕ
four_at bytes k = 16777216 * get_or bytes k 0 + 65536 * get_or bytes (k + 1) 0 + 256 * get_or bytes (k + 2) 0 + get_or bytes (k + 3) 0

unfoldable pub total_in : List ℕ → ℕ
total_in bytes = four_at bytes 4

unfoldable pub slots_in : List ℕ → List Slot
slots_in bytes = slots_from (length bytes) (take (total_in bytes - 8) (drop 8 bytes))

-- t begins with s
unfoldable pub begins : List ℕ → List ℕ → Bool
begins s t = leb (length s) (length t) && all (length s) (agree s t)

-- a buffer has 8 to 65536 bytes
unfoldable pub is_room : ℕ → Bool
is_room n = leb 8 n && leb n 65536

-- the bytes are a bank: what they read as is a list that a bank can hold, and they begin with its layout. What stands behind it is not looked at
unfoldable pub is_bank : List ℕ → Bool
is_bank bytes = is_room (length bytes) && (is_list (slots_in bytes) && begins (layout (slots_in bytes)) bytes)

-- where the slot with a number begins, in slots of which the first begins at a place; where they end if none has it
unfoldable pub place_from : ℕ → ℕ → List Slot → ℕ
place_from k place [] = place
place_from k place (s ∷ ss) = cond (eqb s.number k) place (place_from k (place + size_of s) ss)

abbrev pub place_of : ℕ → List Slot → ℕ
place_of k ss = place_from k 8 ss
