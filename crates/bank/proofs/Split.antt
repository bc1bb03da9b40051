-- A list of slots taken apart at the slot with a number, and the bytes from there on.
-- Assumes nothing.
use mathlib.Core.Path.{◌≡◌, refl, sym, ap, ◌∙◌}
use mathlib.Core.Bool.{Bool, true, false, not, ◌||◌, false≢true}
use mathlib.Core.List.{List, [], ◌∷◌, ◌++◌, append_assoc, map}
use Prim.Native.Nat.{ℕ, ◌+◌, ◌-◌}
use native.Mathlib.Omega.{arith}
use borrow.Author.Tests.{eqb-true, lt-ltb}
use lib.Dec.{eqb, ltb}
use lib.ListN.{length, take, drop, length-append}
use lib.Seq.{take_at, drop_at, drop-drop}
use Rattle.run.specs.Fields.{total}
use Rattle.run.proofs.Bools.{and_left, and_right}
use Rattle.bank.specs.Slots.{Slot, has, fetched, without, size_of, taken, is_number, is_length, is_slot, is_list}
use Rattle.bank.specs.Layout.{slot_bytes, run, head, layout, place_from, place_of}
use Rattle.bank.specs.Exact.{Holds}
use Rattle.bank.proofs.Front.{length_low}
use Rattle.bank.proofs.Laws.{run_cons, run_append, run_length, head_length, taken_append}
use Rattle.bank.proofs.Reading.{holds_is}

-- ---- bytes that hold two lists one behind the other: the second begins at the total of the first
module _ {bytes : List ℕ} (ps ss : List Slot) (h : Holds bytes (ps ++ ss)) where
  holds_parts : bytes ≡ (head (taken (ps ++ ss)) ++ run ps) ++ (run ss ++ drop (taken (ps ++ ss)) bytes)
  unfolding layout
  holds_parts =
      holds_is h
      ∙ rw (run_append ps ss)
      (ap (λ (l : List ℕ). l ++ drop (taken (ps ++ ss)) bytes) (sym (append_assoc (head (taken (ps ++ ss))) (run ps) (run ss)))
      ∙ append_assoc (head (taken (ps ++ ss)) ++ run ps) (run ss) (drop (taken (ps ++ ss)) bytes))

  front_long : length (head (taken (ps ++ ss)) ++ run ps) ≡ taken ps
  unfolding taken
  front_long = let a = head_length (taken (ps ++ ss)) in let b = run_length ps in length-append (head (taken (ps ++ ss))) (run ps) ∙ omega arith

  pub holds_rest : drop (taken ps) bytes ≡ run ss ++ drop (taken (ps ++ ss)) bytes
  holds_rest =
      ap (drop (taken ps)) holds_parts
      ∙ drop_at (head (taken (ps ++ ss)) ++ run ps) (run ss ++ drop (taken (ps ++ ss)) bytes) (taken ps) front_long

  pub holds_front : take (taken ps) bytes ≡ head (taken (ps ++ ss)) ++ run ps
  holds_front =
      ap (take (taken ps)) holds_parts
      ∙ take_at (head (taken (ps ++ ss)) ++ run ps) (run ss ++ drop (taken (ps ++ ss)) bytes) (taken ps) front_long

  pub holds_from : take (taken (ps ++ ss) - taken ps) (drop (taken ps) bytes) ≡ run ss
  holds_from =
      let n = run_length ss in
      let t = taken_append ps ss in
      ap (take (taken (ps ++ ss) - taken ps)) holds_rest
      ∙ take_at (run ss) (drop (taken (ps ++ ss)) bytes) (taken (ps ++ ss) - taken ps) (omega arith)

-- ---- a list at a slot's number
pub record Present (k : ℕ) (ss : List Slot) : Type 0 where
  pub before : List Slot
  pub slot : Slot
  pub behind : List Slot
  pub whole : ss ≡ before ++ slot ∷ behind
  pub number_is : slot.number ≡ k
  pub fetched_is : fetched k ss ≡ slot.digits
  pub without_is : without k ss ≡ before ++ behind
  pub place_is : (place : ℕ) → place_from k place ss ≡ place + total (map size_of before)

here : (k : ℕ) (s : Slot) (ss : List Slot) → eqb s.number k ≡ true → Present k (s ∷ ss)
unfolding fetched without place_from total
here k s ss e =
    record {
      before = [];
      slot = s;
      behind = ss;
      whole = refl;
      number_is = eqb-true _ _ e;
      fetched_is = rw e;
      without_is = rw e;
      place_is = λ place. rw e (omega arith);
    }

later : (k : ℕ) (s : Slot) (ss : List Slot) → eqb s.number k ≡ false → Present k ss → Present k (s ∷ ss)
unfolding fetched without place_from total
later k s ss e p =
    record {
      before = s ∷ p.before;
      slot = p.slot;
      behind = p.behind;
      whole = ap (λ (l : List Slot). s ∷ l) p.whole;
      number_is = p.number_is;
      fetched_is = rw e p.fetched_is;
      without_is = rw e (ap (λ (l : List Slot). s ∷ l) p.without_is);
      place_is = λ place. rw e (p.place_is (place + size_of s) ∙ omega arith);
    }

pub present : (k : ℕ) (ss : List Slot) → has k ss ≡ true → Present k ss
unfolding has
present k [] e = absurd (false≢true e)
present k (s ∷ ss) e = side (eqb s.number k) refl e (present k ss)
  where
    side : (b : Bool) → eqb s.number k ≡ b → (b || has k ss) ≡ true → (has k ss ≡ true → Present k ss) → Present k (s ∷ ss)
    side true t h rest = here k s ss t
    side false t h rest = later k s ss t (rest h)

pub record Absent (k : ℕ) (ss : List Slot) : Type 0 where
  pub fetched_none : fetched k ss ≡ []
  pub without_same : without k ss ≡ ss
  pub place_end : (place : ℕ) → place_from k place ss ≡ place + total (map size_of ss)

absent_rest : (k : ℕ) (s : Slot) (ss : List Slot) → eqb s.number k ≡ false → Absent k ss → Absent k (s ∷ ss)
unfolding fetched without place_from total
absent_rest k s ss e p =
    record {
      fetched_none = rw e p.fetched_none;
      without_same = rw e (ap (λ (l : List Slot). s ∷ l) p.without_same);
      place_end = λ place. rw e (p.place_end (place + size_of s) ∙ omega arith);
    }

absent_nil : (k : ℕ) → Absent k []
unfolding fetched without place_from total
absent_nil k = record { fetched_none = refl; without_same = refl; place_end = λ place. omega arith }

pub absent : (k : ℕ) (ss : List Slot) → has k ss ≡ false → Absent k ss
unfolding has
absent k [] e = absent_nil k
absent k (s ∷ ss) e = side (eqb s.number k) refl e (absent k ss)
  where
    side : (b : Bool) → eqb s.number k ≡ b → (b || has k ss) ≡ false → (has k ss ≡ false → Absent k ss) → Absent k (s ∷ ss)
    side true t h rest = absurd (false≢true (sym h))
    side false t h rest = absent_rest k s ss t (rest h)

-- ---- the slots of a list that a bank can hold
pub list_slot : (ps : List Slot) (s : Slot) (ss : List Slot) → is_list (ps ++ s ∷ ss) ≡ true → is_slot s ≡ true
unfolding is_list
list_slot [] s ss e = and_left (is_slot s) _ e
list_slot (p ∷ ps) s ss e = list_slot ps s ss (and_right (not (has p.number (ps ++ s ∷ ss))) _ (and_right (is_slot p) _ e))

pub slot_long : (s : Slot) → is_slot s ≡ true → is_length (length s.digits) ≡ true
unfolding is_slot
slot_long s e = and_left (is_length (length s.digits)) _ (and_right (is_number s.number) _ e)

-- a slot has digits: so a number is there exactly where it has some
pub has_digits : (k : ℕ) (ss : List Slot) → is_list ss ≡ true → has k ss ≡ ltb 0 (length (fetched k ss))
has_digits k ss list = side (has k ss) refl
  where
    side : (b : Bool) → has k ss ≡ b → b ≡ ltb 0 (length (fetched k ss))
    side true e =
        let p = present k ss e in
        let low = (length_low _ (slot_long p.slot (list_slot p.before p.slot p.behind (ap is_list (sym p.whole) ∙ list)))).0 in
        let n : length (fetched k ss) ≡ length p.slot.digits = ap length p.fetched_is in
        sym (lt-ltb 0 (length (fetched k ss)) (omega arith))
    side false e = sym (ap (λ (l : List ℕ). ltb 0 (length l)) (absent k ss e).fetched_none)

-- ---- the slot with a number, in the bytes that hold it
module _ {bytes : List ℕ} {k : ℕ} {ss : List Slot} (h : Holds bytes ss) (p : Present k ss) where
  abbrev Split : Type 0
  Split = Holds bytes (p.before ++ p.slot ∷ p.behind)

  pub split_holds : Split
  split_holds = rw p.whole at h

  pub start_is : place_of k ss ≡ taken p.before
  unfolding taken
  start_is = p.place_is 8

  pub split_taken : taken ss ≡ taken p.before + (4 + length p.slot.digits + total (map size_of p.behind))
  unfolding total
  split_taken = ap taken p.whole ∙ taken_append p.before (p.slot ∷ p.behind)

  pub slot_there : take (length p.slot.digits) (drop (taken p.before + 4) bytes) ≡ p.slot.digits
  unfolding slot_bytes
  slot_there =
      let rest : List ℕ = run p.behind ++ drop (taken (p.before ++ p.slot ∷ p.behind)) bytes in
      ap (take (length p.slot.digits))
      (sym (drop-drop 4 (taken p.before) bytes)
      ∙ ap (drop 4)
      (holds_rest p.before (p.slot ∷ p.behind) split_holds
      ∙ ap (λ (l : List ℕ). l ++ drop (taken (p.before ++ p.slot ∷ p.behind)) bytes) (run_cons p.slot p.behind)
      ∙ append_assoc (slot_bytes p.slot) (run p.behind) (drop (taken (p.before ++ p.slot ∷ p.behind)) bytes)))
      ∙ take_at p.slot.digits rest (length p.slot.digits) refl
