-- docs/RULES.md, 'Bank': the plain list of numbered slots that a bank holds, and what each call does to it. No byte is spoken of here.
-- Assumes nothing.
use Rattle.std.specs.Prelude.{ℕ, ◌+◌, Bool, true, false, cond, not, ◌&&◌, ◌||◌, List, [], ◌∷◌, ◌++◌, map, eqb, leb, length}
use Rattle.run.specs.First.{all, at_most}
use Rattle.run.specs.Fields.{total}

-- a slot that is held: the number under which it was stored, and its digits
pub record Slot : Type 0 where
  pub number : ℕ
  pub digits : List ℕ

-- some slot of the list has the number
unfoldable pub has : ℕ → List Slot → Bool
has k [] = false
has k (s ∷ ss) = eqb s.number k || has k ss

-- store: the new slot comes last
abbrev pub stored : List Slot → Slot → List Slot
stored ss s = ss ++ s ∷ []

-- fetch: the digits of the slot with the number; none where there is no such slot
unfoldable pub fetched : ℕ → List Slot → List ℕ
fetched k [] = []
fetched k (s ∷ ss) = cond (eqb s.number k) s.digits (fetched k ss)

-- drop: the list without that slot, the others in their order
unfoldable pub without : ℕ → List Slot → List Slot
without k [] = []
without k (s ∷ ss) = cond (eqb s.number k) ss (s ∷ without k ss)

-- the bytes that a slot takes, four beside its digits; and all that are taken, with the header's eight
abbrev pub size_of : Slot → ℕ
size_of s = 4 + length s.digits

unfoldable pub taken : List Slot → ℕ
taken ss = 8 + total (map size_of ss)

-- numbers are 0 to 255, a slot has 10 to 1280 digits, and a digit is 0, 1 or 2
abbrev pub is_number : ℕ → Bool
is_number k = leb k 255

unfoldable pub is_length : ℕ → Bool
is_length n = leb 10 n && leb n 1280

unfoldable pub is_slot : Slot → Bool
is_slot s = is_number s.number && (is_length (length s.digits) && all (length s.digits) (at_most 2 s.digits))

-- a list that a bank can hold: each slot is such a slot, and no two have one number
unfoldable pub is_list : List Slot → Bool
is_list [] = true
is_list (s ∷ ss) = is_slot s && (not (has s.number ss) && is_list ss)
