-- The check as it goes through a bank, slot by slot, with a mark for each number that was seen: it passes exactly where the bytes are a bank.
-- Assumes nothing.
use mathlib.Core.Path.{◌≡◌, refl, sym, ap, ◌∙◌}
use mathlib.Core.Bool.{Bool, true, false, not, ◌&&◌, ◌||◌, false≢true}
use mathlib.Core.List.{List, [], ◌∷◌, ◌++◌}
use Prim.Native.Nat.{ℕ, zero, suc, ◌+◌, ◌≤◌, ◌<◌}
use native.Mathlib.Nat.{not-suc-le-zero, le_of_suc-le-suc}
use native.Mathlib.Omega.{arith}
use borrow.Author.Tests.{leb-true, eqb-true, eqb-false, eq-eqb, not-true}
use lib.Dec.{eqb, leb}
use lib.ListN.{length, get_or, set, drop, length-set, length-append}
use lib.Seq.{get_or-set_same, get_or-set_other, drop-drop}
use Rattle.run.specs.Fields.{joined}
use Rattle.run.proofs.Bools.{and_left, and_right}
use Rattle.bank.specs.Slots.{Slot, has, is_number, is_slot, is_list}
use Rattle.bank.specs.Layout.{slot_bytes, run, length_in, first_slot, begins}
use Rattle.bank.proofs.Front.{Slotted, stands, stands_slotted, slotted_is}
use Rattle.bank.proofs.Laws.{both, run_cons, slot_length, slot_read, slot_passed, is_begins}

-- whether the bytes read as slots with numbers that are not marked, no two alike; at most n slots are looked for
unfoldable pub walks : ℕ → List Bool → List ℕ → Bool
walks zero marks s = leb (length s) 0
walks (suc n) marks [] = true
walks (suc n) marks (b ∷ s) =
    (is_slot (first_slot (b ∷ s)) && begins (slot_bytes (first_slot (b ∷ s))) (b ∷ s))
    && (not (get_or marks b false) && walks n (set marks b true) (drop (4 + length_in (b ∷ s)) (b ∷ s)))

-- what the marks say of a list: its numbers have none
abbrev Free : List Bool → List Slot → Type 0
Free marks ss = (k : ℕ) → has k ss ≡ true → get_or marks k false ≡ false

has_first : (s : Slot) (ss : List Slot) → has s.number (s ∷ ss) ≡ true
unfolding has
has_first s ss = rw (eq-eqb s.number s.number refl)

has_rest : (k : ℕ) (s : Slot) (ss : List Slot) → has k ss ≡ true → has k (s ∷ ss) ≡ true
unfolding has
has_rest k s ss e = side (eqb s.number k)
  where
    side : (b : Bool) → (b || has k ss) ≡ true
    side true = refl
    side false = e

-- a list taken apart and put together
is_list_slot : (s : Slot) (ss : List Slot) → is_list (s ∷ ss) ≡ true → is_slot s ≡ true
unfolding is_list
is_list_slot s ss e = and_left (is_slot s) _ e

is_list_new : (s : Slot) (ss : List Slot) → is_list (s ∷ ss) ≡ true → has s.number ss ≡ false
unfolding is_list
is_list_new s ss e = not-true _ (and_left (not (has s.number ss)) _ (and_right (is_slot s) _ e))

is_list_rest : (s : Slot) (ss : List Slot) → is_list (s ∷ ss) ≡ true → is_list ss ≡ true
unfolding is_list
is_list_rest s ss e = and_right (not (has s.number ss)) _ (and_right (is_slot s) _ e)

is_list_cons : (s : Slot) (ss : List Slot) → is_slot s ≡ true → has s.number ss ≡ false → is_list ss ≡ true → is_list (s ∷ ss) ≡ true
unfolding is_list
is_list_cons s ss p q r = rw (p, q, r)

number_low : (s : Slot) → is_slot s ≡ true → s.number ≤ 255
unfolding is_slot
number_low s e = leb-true _ _ (and_left (is_number s.number) _ e)

-- one step of the walk
pub walks_step : (n : ℕ) (marks : List Bool) (s : List ℕ) → 0 < length s
    → walks (suc n) marks s ≡ (stands s && (not (get_or marks (get_or s 0 0) false) && walks n (set marks (get_or s 0 0) true) (drop (4 + length_in s) s)))
unfolding walks
walks_step n marks [] h = absurd (not-suc-le-zero h)
walks_step n marks (b ∷ s) h = refl

pub walks_end : (n : ℕ) (marks : List Bool) → walks n marks [] ≡ true
unfolding walks
walks_end zero marks = refl
walks_end (suc n) marks = refl

first_byte : (s : Slot) (rest : List ℕ) → get_or (slot_bytes s ++ rest) 0 0 ≡ s.number
unfolding slot_bytes
first_byte s rest = refl

some_bytes : (s : Slot) (rest : List ℕ) → 0 < length (slot_bytes s ++ rest)
some_bytes s rest = let n = slot_length s in omega (arith, length-append (slot_bytes s) rest)

-- a slot that stands in front passes, and the walk goes on behind it
walks_slot : (n : ℕ) (marks : List Bool) (s : Slot) (rest : List ℕ) → is_slot s ≡ true
    → walks (suc n) marks (slot_bytes s ++ rest) ≡ (not (get_or marks s.number false) && walks n (set marks s.number true) rest)
walks_slot n marks s rest e =
    let slot = slot_read s rest in
    walks_step n marks (slot_bytes s ++ rest) (some_bytes s rest)
    ∙ ap (λ (b : Bool). b && (not (get_or marks (get_or (slot_bytes s ++ rest) 0 0) false) && walks n (set marks (get_or (slot_bytes s ++ rest) 0 0) true) (drop (4 + length_in (slot_bytes s ++ rest)) (slot_bytes s ++ rest))))
    (both (ap is_slot slot ∙ e) (ap (λ (f : Slot). begins (slot_bytes f) (slot_bytes s ++ rest)) slot ∙ is_begins (slot_bytes s) rest))
    ∙ rw (first_byte s rest, slot_passed s rest)

-- the list that the bytes are passes
pub walks_run : (n : ℕ) (marks : List Bool) (ss : List Slot) → length ss ≤ n → is_list ss ≡ true → Free marks ss → walks n marks (run ss) ≡ true
unfolding run joined
walks_run n marks [] h list free = walks_end n marks
walks_run zero marks (s ∷ ss) h list free = absurd (not-suc-le-zero h)
walks_run (suc n) marks (s ∷ ss) h list free =
    walks_slot n marks s (run ss) (is_list_slot s ss list)
    ∙ both (ap not (free s.number (has_first s ss)))
    (walks_run n (set marks s.number true) ss (le_of_suc-le-suc h) (is_list_rest s ss list)
    (λ k there.
    get_or-set_other marks s.number k true false (λ e. false≢true (sym (is_list_new s ss list) ∙ ap (λ (j : ℕ). has j ss) (sym e) ∙ there))
    ∙ free k (has_rest k s ss there)))

-- ---- and what passes is a list
pub record Walked (marks : List Bool) (s : List ℕ) : Type 0 where
  pub slots : List Slot
  pub is : s ≡ run slots
  pub list : is_list slots ≡ true
  pub free : Free marks slots

no_slots : (marks : List Bool) → Walked marks []
unfolding run joined is_list has
no_slots marks = record { slots = []; is = refl; list = refl; free = λ k e. absurd (false≢true e) }

-- one slot more in front
module _ (marks : List Bool) (s : List ℕ) (wide : length marks ≡ 256) (front : Slotted s) (good : is_slot (first_slot s) ≡ true) (unseen : get_or marks (get_or s 0 0) false ≡ false)
    (behind : Walked (set marks (get_or s 0 0) true) (drop (4 + length_in s) s)) where
  new : has (get_or s 0 0) behind.slots ≡ false
  new = side (has (get_or s 0 0) behind.slots) refl
    where
      side : (b : Bool) → has (get_or s 0 0) behind.slots ≡ b → b ≡ false
      side true e =
          let low = front.number in
          let marked = get_or-set_same marks (get_or s 0 0) true false (omega arith) in
          let clean = behind.free (get_or s 0 0) e in
          absurd (false≢true (sym clean ∙ marked))
      side false e = refl

  free_too : Free marks (first_slot s ∷ behind.slots)
  unfolding has first_slot
  free_too k e = side (eqb (get_or s 0 0) k) refl e
    where
      side : (b : Bool) → eqb (get_or s 0 0) k ≡ b → (b || has k behind.slots) ≡ true → get_or marks k false ≡ false
      side true t h = ap (λ (j : ℕ). get_or marks j false) (sym (eqb-true _ _ t)) ∙ unseen
      side false t h =
          sym (get_or-set_other marks (get_or s 0 0) k true false (λ same. eqb-false _ _ t (sym same))) ∙ behind.free k h

  number_is : has (get_or s 0 0) behind.slots ≡ false → has (first_slot s).number behind.slots ≡ false
  unfolding first_slot
  number_is e = e

  one_more : Walked marks s
  one_more =
      record {
        slots = first_slot s ∷ behind.slots;
        is =
            slotted_is s front
            ∙ ap (λ (l : List ℕ). slot_bytes (first_slot s) ++ l) (drop-drop (length_in s) 4 s ∙ behind.is)
            ∙ sym (run_cons (first_slot s) behind.slots);
        list = is_list_cons (first_slot s) behind.slots good (number_is new) behind.list;
        free = free_too;
      }

pub walks_list : (n : ℕ) (marks : List Bool) (s : List ℕ) → length marks ≡ 256 → walks n marks s ≡ true → Walked marks s
unfolding walks
walks_list zero marks [] wide e = no_slots marks
walks_list zero marks (b ∷ s) wide e = absurd (let h : suc (length s) ≤ 0 = leb-true (suc (length s)) 0 e in not-suc-le-zero h)
walks_list (suc n) marks [] wide e = no_slots marks
walks_list (suc n) marks (b ∷ s) wide e =
    let there = and_left (stands (b ∷ s)) _ e in
    let rest = and_right (stands (b ∷ s)) _ e in
    one_more marks (b ∷ s) wide (stands_slotted (b ∷ s) there) (and_left (is_slot (first_slot (b ∷ s))) _ there) (not-true _ (and_left (not (get_or marks b false)) _ rest))
    (walks_list n (set marks b true) (drop (4 + length_in (b ∷ s)) (b ∷ s)) (length-set marks b true ∙ wide) (and_right (not (get_or marks b false)) _ rest))
