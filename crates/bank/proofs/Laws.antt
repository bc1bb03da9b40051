-- Laws of the list of slots and of its bytes: lengths, and what is read where a list was written.
-- Assumes nothing.
use mathlib.Core.Path.{◌≡◌, refl, sym, ap, ◌∙◌}
use mathlib.Core.Bool.{Bool, true, false, ◌&&◌}
use mathlib.Core.List.{List, [], ◌∷◌, ◌++◌, append_assoc, map}
use Prim.Native.Nat.{ℕ, zero, suc, ◌+◌, ◌-◌, ◌≤◌, ◌<◌}
use native.Mathlib.Nat.{not-suc-le-zero, le_of_suc-le-suc}
use native.Mathlib.Omega.{arith}
use borrow.Author.Tests.{leb-true, le-leb, eqb-true, eq-eqb}
use lib.Dec.{leb}
use lib.ListN.{length, take, drop, length-append, take-append-drop, get_or-append}
use lib.Seq.{take_at, drop_at, take-add, length-take-le, get_or-take, ext_get_or}
use Rattle.run.specs.First.{agree}
use Rattle.run.specs.Fields.{total, joined}
use Rattle.run.proofs.Bools.{and_left, and_right}
use Rattle.run.proofs.Passing.{all_every, every_all}
use Rattle.bank.specs.Slots.{Slot, size_of, taken}
use Rattle.bank.specs.Layout.{slot_bytes, run, head, layout, length_in, first_slot, slots_from, four_at, total_in, begins}

-- two tests of which each holds where the other does are one
pub same_test : (a b : Bool) → (a ≡ true → b ≡ true) → (b ≡ true → a ≡ true) → a ≡ b
same_test true b f g = sym (f refl)
same_test false true f g = g refl
same_test false false f g = refl

pub both : {a b : Bool} → a ≡ true → b ≡ true → (a && b) ≡ true
both p q = rw (p, q)

-- ---- lengths
pub slot_length : (s : Slot) → length (slot_bytes s) ≡ size_of s
unfolding slot_bytes
slot_length s = omega arith

pub run_cons : (s : Slot) (ss : List Slot) → run (s ∷ ss) ≡ slot_bytes s ++ run ss
unfolding run joined
run_cons s ss = refl

pub run_append : (ss ts : List Slot) → run (ss ++ ts) ≡ run ss ++ run ts
unfolding run joined
run_append [] ts = refl
run_append (s ∷ ss) ts = ap (λ (l : List ℕ). slot_bytes s ++ l) (run_append ss ts) ∙ sym (append_assoc (slot_bytes s) (run ss) (run ts))

pub run_length : (ss : List Slot) → length (run ss) ≡ total (map size_of ss)
unfolding run joined total
run_length [] = refl
run_length (s ∷ ss) =
    length-append (slot_bytes s) (run ss) ∙ (let a = slot_length s in let b = run_length ss in omega arith)

pub total_append : (ss ts : List Slot) → total (map size_of (ss ++ ts)) ≡ total (map size_of ss) + total (map size_of ts)
unfolding total
total_append [] ts = omega arith
total_append (s ∷ ss) ts = let r = total_append ss ts in omega arith

-- the total of a list, and of one that was put together
pub taken_append : (ss ts : List Slot) → taken (ss ++ ts) ≡ taken ss + total (map size_of ts)
unfolding taken
taken_append ss ts = let r = total_append ss ts in omega arith

pub head_length : (n : ℕ) → length (head n) ≡ 8
unfolding head
head_length n = refl

pub layout_length : (ss : List Slot) → length (layout ss) ≡ taken ss
unfolding layout taken
layout_length ss = length-append (head (taken ss)) (run ss) ∙ (let a = head_length (taken ss) in let b = run_length ss in omega arith)

-- a slot takes more than a byte
pub count_total : (ss : List Slot) → length ss ≤ total (map size_of ss)
unfolding total
count_total [] = omega arith
count_total (s ∷ ss) = let r = count_total ss in omega arith

-- ---- a slot that was written is read
pub length_read : (s : Slot) (rest : List ℕ) → length_in (slot_bytes s ++ rest) ≡ length s.digits
unfolding length_in slot_bytes
length_read s rest = omega arith

pub slot_read : (s : Slot) (rest : List ℕ) → first_slot (slot_bytes s ++ rest) ≡ s
unfolding first_slot slot_bytes
slot_read s rest =
    λ i. record { number = s.number; digits = (ap (λ (n : ℕ). take n (s.digits ++ rest)) (length_read s rest) ∙ take_at s.digits rest (length s.digits) refl) i }

pub slot_passed : (s : Slot) (rest : List ℕ) → drop (4 + length_in (slot_bytes s ++ rest)) (slot_bytes s ++ rest) ≡ rest
slot_passed s rest =
    drop_at (slot_bytes s) rest (4 + length_in (slot_bytes s ++ rest)) (slot_length s ∙ ap (λ (n : ℕ). 4 + n) (sym (length_read s rest)))

slots_cons : (n : ℕ) (s : Slot) (rest : List ℕ) → slots_from (suc n) (slot_bytes s ++ rest) ≡ first_slot (slot_bytes s ++ rest) ∷ slots_from n (drop (4 + length_in (slot_bytes s ++ rest)) (slot_bytes s ++ rest))
unfolding slots_from slot_bytes
slots_cons n s rest = refl

pub slots_read : (n : ℕ) (ss : List Slot) → length ss ≤ n → slots_from n (run ss) ≡ ss
unfolding slots_from run joined
slots_read zero [] h = refl
slots_read (suc n) [] h = refl
slots_read zero (s ∷ ss) h = absurd (not-suc-le-zero h)
slots_read (suc n) (s ∷ ss) h =
    slots_cons n s (run ss) ∙ rw (slot_read s (run ss), slot_passed s (run ss), slots_read n ss (le_of_suc-le-suc h))

-- .. and so is the total
pub total_read : (n : ℕ) (rest : List ℕ) → total_in (head n ++ rest) ≡ n
unfolding total_in four_at head
total_read n rest = omega arith

pub head_passed : (n : ℕ) (rest : List ℕ) → drop 8 (head n ++ rest) ≡ rest
head_passed n rest = drop_at (head n) rest 8 (head_length n)

-- ---- a run that begins with another
pub begins_take : (s t : List ℕ) → begins s t ≡ true → take (length s) t ≡ s
unfolding begins
begins_take s t e =
    let h : length s ≤ length t = leb-true _ _ (and_left _ _ e) in
    let all = all_every (length s) (agree s t) (and_right (leb (length s) (length t)) _ e) in
    let long = length-take-le (length s) t h in
    ext_get_or 0 (take (length s) t) s long
    (λ k l. let m : k < length s = rw long at l in get_or-take (length s) t k 0 m ∙ sym (eqb-true _ _ (all k m)))

pub begins_is : (s t : List ℕ) → begins s t ≡ true → t ≡ s ++ drop (length s) t
begins_is s t e = sym (take-append-drop (length s) t) ∙ ap (λ (l : List ℕ). l ++ drop (length s) t) (begins_take s t e)

pub is_begins : (s rest : List ℕ) → begins s (s ++ rest) ≡ true
unfolding begins
is_begins s rest =
    let n = length-append s rest in
    both (le-leb (length s) (length (s ++ rest)) (omega arith))
    (every_all (length s) (agree s (s ++ rest)) (λ k h. eq-eqb _ _ (sym (get_or-append s rest 0 k h))))

-- what is left of the front of a run
pub drop_take : (k n : ℕ) (l : List ℕ) → k ≤ n → n ≤ length l → drop k (take n l) ≡ take (n - k) (drop k l)
drop_take k n l h w =
    let e : k + (n - k) ≡ n = omega arith in
    ap (λ (j : ℕ). drop k (take j l)) (sym e)
    ∙ ap (drop k) (take-add k (n - k) l)
    ∙ drop_at (take k l) (take (n - k) (drop k l)) k (length-take-le k l (omega arith))
