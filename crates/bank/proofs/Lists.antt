-- The lists that a bank can hold: what a store and a drop leave is one again.
-- Assumes nothing.
use mathlib.Core.Path.{◌≡◌, refl, sym, ap}
use mathlib.Core.Bool.{Bool, true, false, cond, not, ◌||◌, false≢true}
use mathlib.Core.List.{List, [], ◌∷◌, ◌++◌}
use Prim.Native.Nat.{ℕ}
use borrow.Author.Tests.{eqb-false, ne_eqb, not-true}
use lib.Dec.{eqb}
use lib.ListN.{length}
use Rattle.run.specs.First.{Every, at_most}
use Rattle.run.proofs.Bools.{and_left, and_right}
use Rattle.run.proofs.Passing.{every_all}
use Rattle.bank.specs.Slots.{Slot, has, without, is_number, is_length, is_slot, is_list}
use Rattle.bank.proofs.Laws.{both}

-- ---- a new slot behind the others
or_false : (a b : Bool) → a ≡ false → b ≡ false → (a || b) ≡ false
or_false a b p q = rw (p, q)

has_stored : (k : ℕ) (ss : List Slot) (s : Slot) → has k ss ≡ false → eqb s.number k ≡ false → has k (ss ++ s ∷ []) ≡ false
unfolding has
has_stored k [] s e f = or_false _ _ f refl
has_stored k (p ∷ ss) s e f = side (eqb p.number k) e (has_stored k ss s)
  where
    side : (b : Bool) → (b || has k ss) ≡ false → (has k ss ≡ false → eqb s.number k ≡ false → has k (ss ++ s ∷ []) ≡ false) → (b || has k (ss ++ s ∷ [])) ≡ false
    side true h rest = h
    side false h rest = rest h f

pub list_stored : (ss : List Slot) (s : Slot) → is_list ss ≡ true → is_slot s ≡ true → has s.number ss ≡ false → is_list (ss ++ s ∷ []) ≡ true
unfolding is_list has
list_stored [] s list slot new = rw slot
list_stored (p ∷ ss) s list slot new =
    both (and_left (is_slot p) _ list)
    (both
    (ap not (has_stored p.number ss s (not-true _ (and_left (not (has p.number ss)) _ (and_right (is_slot p) _ list))) (other (eqb p.number s.number) refl new)))
    (list_stored ss s (and_right (not (has p.number ss)) _ (and_right (is_slot p) _ list)) slot (later (eqb p.number s.number) new)))
  where
    later : (b : Bool) → (b || has s.number ss) ≡ false → has s.number ss ≡ false
    later true h = absurd (false≢true (sym h))
    later false h = h

    other : (b : Bool) → eqb p.number s.number ≡ b → (b || has s.number ss) ≡ false → eqb s.number p.number ≡ false
    other true t h = absurd (false≢true (sym h))
    other false t h = ne_eqb s.number p.number (λ e. eqb-false p.number s.number t (sym e))

-- ---- a slot taken out
has_without : (j k : ℕ) (ss : List Slot) → has j ss ≡ false → has j (without k ss) ≡ false
unfolding has without
has_without j k [] e = refl
has_without j k (s ∷ ss) e = side (eqb s.number k) (first (eqb s.number j) e) (has_without j k ss (later (eqb s.number j) e))
  where
    later : (b : Bool) → (b || has j ss) ≡ false → has j ss ≡ false
    later true h = absurd (false≢true (sym h))
    later false h = h

    first : (b : Bool) → (b || has j ss) ≡ false → b ≡ false
    first true h = h
    first false h = refl

    side : (b : Bool) → eqb s.number j ≡ false → has j (without k ss) ≡ false → has j (cond b ss (s ∷ without k ss)) ≡ false
    side true h rest = later (eqb s.number j) e
    side false h rest = or_false (eqb s.number j) (has j (without k ss)) h rest

pub list_without : (k : ℕ) (ss : List Slot) → is_list ss ≡ true → is_list (without k ss) ≡ true
unfolding is_list without
list_without k [] list = refl
list_without k (s ∷ ss) list =
    side (eqb s.number k) (has_without s.number k ss (not-true _ (and_left (not (has s.number ss)) _ (and_right (is_slot s) _ list))))
    (list_without k ss (and_right (not (has s.number ss)) _ (and_right (is_slot s) _ list)))
  where
    side : (b : Bool) → has s.number (without k ss) ≡ false → is_list (without k ss) ≡ true → is_list (cond b ss (s ∷ without k ss)) ≡ true
    side true new rest = and_right (not (has s.number ss)) _ (and_right (is_slot s) _ list)
    side false new rest = both (and_left (is_slot s) _ list) (both (ap not new) rest)

-- a slot whose parts were checked
pub slot_good : (s : Slot) → is_number s.number ≡ true → is_length (length s.digits) ≡ true → Every (at_most 2 s.digits) (length s.digits) → is_slot s ≡ true
unfolding is_slot
slot_good s low long digits = both low (both long (every_all (length s.digits) (at_most 2 s.digits) digits))
