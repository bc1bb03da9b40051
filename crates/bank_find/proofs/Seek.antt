-- The search from slot to slot: what its loop keeps, and what stands where it ends.
-- Assumes nothing.
use mathlib.Core.Path.{◌≡◌, refl, sym, ap, ◌∙◌}
use mathlib.Core.Bool.{Bool, true, false, cond}
use mathlib.Core.List.{List, [], ◌∷◌, ◌++◌, append_assoc, append-nil}
use Prim.Native.Nat.{ℕ, ◌+◌, ◌-◌, ◌≤◌, ◌<◌}
use native.Mathlib.Nat.{add-zero}
use native.Mathlib.Omega.{arith}
use borrow.Author.Tests.{eq-eqb, ne_eqb}
use lib.ListN.{length, get_or, take, drop, length-append}
use lib.Seq.{get_or-take, get_or-drop}
use Rattle.std.specs.Option.{unwrap_or}
use Rattle.std.specs.Prelude.{Option, Some, None}
use Rattle.run.specs.Fields.{total}
use Rattle.bank.specs.Slots.{Slot, has, fetched, taken}
use Rattle.bank.specs.Layout.{slot_bytes, run, slots_in, is_bank, place_from, place_of}
use Rattle.bank.specs.Outcome.{front_length, head_total}
use Rattle.bank.specs.Exact.{Holds}
use Rattle.bank.proofs.Front.{length_there, heads_total}
use Rattle.bank.proofs.Laws.{run_cons, slot_length, length_read, taken_append, count_total}
use Rattle.bank.proofs.Reading.{holds_fits, holds_total, holds_heads, bank_holds}
use Rattle.bank.proofs.Split.{holds_from, present, absent}

-- the number of digits where a list begins
pub front_run : (s : Slot) (ss : List Slot) → front_length (run (s ∷ ss)) ≡ length s.digits
front_run s ss =
    let n = slot_length s in
    let m = length-append (slot_bytes s) (run ss) in
    ap front_length (run_cons s ss)
    ∙ length_there (slot_bytes s ++ run ss) (omega arith)
    ∙ length_read s (run ss)

front_none : front_length [] ≡ 0
unfolding front_length
front_none = refl

-- the slots before the loop's place are passed, and none of them has the number
pub record Seeking (bytes : List ℕ) (number end at : ℕ) : Type 0 where
  pub passed : List Slot
  pub left : List Slot
  pub holds : Holds bytes (passed ++ left)
  pub end_is : end ≡ taken (passed ++ left)
  pub at_is : at ≡ taken passed
  pub place : place_of number (slots_in bytes) ≡ place_from number at left
  pub there : has number (slots_in bytes) ≡ has number left

pub seek_start : (bytes : List ℕ) (number end : ℕ) → is_bank bytes ≡ true → end ≡ taken (slots_in bytes) → Seeking bytes number end 8
unfolding taken total
seek_start bytes number end e t =
    record { passed = []; left = slots_in bytes; holds = bank_holds bytes e; end_is = t; at_is = refl; place = refl; there = refl }

module _ {bytes : List ℕ} {number end at : ℕ} (w : Seeking bytes number end at) where
  pub seek_within : at ≤ end
  seek_within = let a = w.end_is in let b = w.at_is in omega (arith, taken_append w.passed w.left)

  pub seek_fits : end ≤ length bytes
  seek_fits = let a = w.end_is in omega (arith, holds_fits w.holds)

  -- the bytes that are left
  pub seek_left : take (end - at) (drop at bytes) ≡ run w.left
  seek_left = rw (w.end_is, w.at_is) (holds_from w.passed w.left w.holds)

  pub seek_end : end ≤ at → has number (slots_in bytes) ≡ false
  unfolding has
  seek_end h = ended w.left refl
    where
      ended : (ss : List Slot) → w.left ≡ ss → has number (slots_in bytes) ≡ false
      ended [] e = w.there ∙ ap (has number) e
      ended (s ∷ ss) e =
          let a = w.end_is in
          let b = w.at_is in
          let t = taken_append w.passed w.left in
          let few = count_total w.left in
          let n : length w.left ≡ length (s ∷ ss) = ap length e in
          absurd (let z : ⊥ = omega arith in z)

  -- the next slot
  pub record Next : Type 0 where
    pub slot : Slot
    pub behind : List Slot
    pub is : w.left ≡ slot ∷ behind

  pub seek_next : at < end → Next
  seek_next h = some w.left refl
    where
      some : (ss : List Slot) → w.left ≡ ss → Next
      some [] e =
          let a = w.end_is in
          let b = w.at_is in
          let t : taken (w.passed ++ w.left) ≡ taken w.passed = ap (λ (l : List Slot). taken (w.passed ++ l)) e ∙ ap taken (append-nil w.passed) in
          absurd (let z : ⊥ = omega arith in z)
      some (s ∷ ss) e = record { slot = s; behind = ss; is = e }

  module _ (h : at < end) (x : Next) where
    front_is : take (end - at) (drop at bytes) ≡ slot_bytes x.slot ++ run x.behind
    front_is = seek_left ∙ ap run x.is ∙ run_cons x.slot x.behind

    pub number_is : get_or bytes at 0 ≡ x.slot.number
    unfolding slot_bytes
    number_is =
        let some : 0 < end - at = omega arith in
        sym (get_or-take (end - at) (drop at bytes) 0 0 some ∙ get_or-drop at bytes 0 0 ∙ ap (λ (k : ℕ). get_or bytes k 0) (add-zero at))
        ∙ ap (λ (l : List ℕ). get_or l 0 0) front_is

    pub length_is : front_length (take (end - at) (drop at bytes)) ≡ length x.slot.digits
    length_is = ap front_length (seek_left ∙ ap run x.is) ∙ front_run x.slot x.behind

    pub seek_found : x.slot.number ≡ number → (has number (slots_in bytes) ≡ true) × (at ≡ place_of number (slots_in bytes))
    unfolding place_from has
    seek_found e = (w.there ∙ ap (has number) x.is ∙ rw (eq-eqb _ _ e), sym (w.place ∙ ap (place_from number at) x.is ∙ rw (eq-eqb _ _ e)))

    pub seek_more : (size : ℕ) → size ≡ 4 + length x.slot.digits → (x.slot.number ≡ number → ⊥) → Seeking bytes number end (at + size)
    unfolding place_from has total
    seek_more size told other =
        let whole : w.passed ++ w.left ≡ (w.passed ++ x.slot ∷ []) ++ x.behind =
        ap (λ (l : List Slot). w.passed ++ l) x.is ∙ sym (append_assoc w.passed (x.slot ∷ []) x.behind)
        in
        let t = taken_append w.passed (x.slot ∷ []) in
        let b = w.at_is in
        record {
          passed = w.passed ++ x.slot ∷ [];
          left = x.behind;
          holds = rw whole at w.holds;
          end_is = w.end_is ∙ ap taken whole;
          at_is = omega arith;
          place = w.place ∙ ap (place_from number at) x.is ∙ rw (ne_eqb _ _ other, told);
          there = w.there ∙ ap (has number) x.is ∙ rw (ne_eqb _ _ other);
        }

-- ---- the slot where the search ended
module _ (bytes : List ℕ) (number : ℕ) (e : is_bank bytes ≡ true) where
  h : Holds bytes (slots_in bytes)
  h = bank_holds bytes e

  pub place_within : place_of number (slots_in bytes) ≤ taken (slots_in bytes)
  unfolding taken
  place_within = side (has number (slots_in bytes)) refl
    where
      side : (b : Bool) → has number (slots_in bytes) ≡ b → place_of number (slots_in bytes) ≤ taken (slots_in bytes)
      side true t =
          let p = present number (slots_in bytes) t in
          let at = p.place_is 8 in
          let all = ap taken p.whole ∙ taken_append p.before (p.slot ∷ p.behind) in
          omega arith
      side false t = let at = (absent number (slots_in bytes) t).place_end 8 in omega arith

  -- where a slot is told to begin: at its place, and at the total where there is none
  pub place_told : {o : Option ℕ} {n : ℕ} → o ≡ cond (has number (slots_in bytes)) (Some (place_of number (slots_in bytes))) None → n ≡ taken (slots_in bytes)
      → unwrap_or o n ≡ place_of number (slots_in bytes)
  unfolding taken
  place_told {o} {n} s t = rw s (side (has number (slots_in bytes)) refl)
    where
      side : (b : Bool) → has number (slots_in bytes) ≡ b → unwrap_or (cond b (Some (place_of number (slots_in bytes))) None) n ≡ place_of number (slots_in bytes)
      side true w = refl
      side false w = t ∙ sym ((absent number (slots_in bytes) w).place_end 8)

  pub length_found : front_length (take (taken (slots_in bytes) - place_of number (slots_in bytes)) (drop (place_of number (slots_in bytes)) bytes)) ≡ length (fetched number (slots_in bytes))
  unfolding taken
  length_found = side (has number (slots_in bytes)) refl
    where
      side : (b : Bool) → has number (slots_in bytes) ≡ b
          → front_length (take (taken (slots_in bytes) - place_of number (slots_in bytes)) (drop (place_of number (slots_in bytes)) bytes)) ≡ length (fetched number (slots_in bytes))
      side true t =
          let p = present number (slots_in bytes) t in
          let at : place_of number (slots_in bytes) ≡ taken p.before = p.place_is 8 in
          rw (at, p.fetched_is)
          (ap (λ (l : List Slot). front_length (take (taken l - taken p.before) (drop (taken p.before) bytes))) p.whole
          ∙ ap front_length (holds_from p.before (p.slot ∷ p.behind) (rw p.whole at h))
          ∙ front_run p.slot p.behind)
      side false t =
          let a = absent number (slots_in bytes) t in
          let at : place_of number (slots_in bytes) ≡ taken (slots_in bytes) = a.place_end 8 in
          let none : taken (slots_in bytes) - taken (slots_in bytes) ≡ 0 = omega arith in
          rw (at, a.fetched_none, none) front_none
