-- What a store and a drop write: a part of the bytes, and then the header, is the layout of the new list over the old bytes.
-- Assumes nothing.
use mathlib.Core.Path.{◌≡◌, sym, ap, ◌∙◌}
use mathlib.Core.List.{List, [], ◌∷◌, ◌++◌, append_assoc, append-nil}
use Prim.Native.Nat.{ℕ, ◌+◌, ◌-◌, ◌≤◌}
use native.Mathlib.Omega.{arith}
use borrow.Rule.Slice.PartMut.{put_mid, mid_of, Post-is}
use lib.ListN.{length, take, drop, length-append, length-drop}
use Rattle.std.proofs.Math.Seq.{paste}
use lib.Seq.{take_all, drop_at, drop-drop, drop-append-le}
use Rattle.run.specs.Fields.{total, joined}
use Rattle.run.specs.Written.{over}
use Rattle.bank.specs.Slots.{Slot, without, taken}
use Rattle.bank.specs.Layout.{slot_bytes, run, head, layout}
use Rattle.bank.specs.Exact.{Holds}
use Rattle.bank.proofs.Laws.{drop_take, head_length, head_passed, run_cons, run_append, run_length, slot_length, taken_append}
use Rattle.bank.proofs.Reading.{over_layout, holds_fits}
use Rattle.bank.proofs.Split.{Present, holds_rest, holds_front, holds_from, split_holds, split_taken}

-- a header over a header
pub head_over : (n m : ℕ) (rest : List ℕ) → over (head n) (head m ++ rest) ≡ head n ++ rest
unfolding over
head_over n m rest =
    let a = head_length n in
    let b = head_length m in
    let l = length-append (head m) rest in
    rw (take_all (length (head m ++ rest)) (head n) (omega arith), a) (ap (λ (l : List ℕ). head n ++ l) (head_passed m rest))

-- one slot more behind the others
module _ {bytes : List ℕ} {ss : List Slot} (h : Holds bytes ss) (s : Slot) where
  run_stored : run (ss ++ s ∷ []) ≡ run ss ++ slot_bytes s
  unfolding run joined
  run_stored = run_append ss (s ∷ []) ∙ ap (λ (l : List ℕ). run ss ++ l) (run_cons s [] ∙ append-nil (slot_bytes s))

  pub taken_stored : taken (ss ++ s ∷ []) ≡ taken ss + (4 + length s.digits)
  unfolding total
  taken_stored = taken_append ss (s ∷ []) ∙ omega arith

  pub stored_bytes : (end : ℕ) → end ≡ taken ss + (4 + length s.digits) → end ≤ length bytes
      → over (head end) (put_mid (taken ss) (end - taken ss) bytes (slot_bytes s)) ≡ over (layout (ss ++ s ∷ [])) bytes
  unfolding layout
  stored_bytes end e fits =
      let t : taken (ss ++ s ∷ []) ≡ end = taken_stored ∙ sym e in
      let wide : taken ss ≤ end = omega arith in
      rw (h.laid, Post-is (taken ss) end bytes wide, append_assoc (head (taken ss)) (run ss) (slot_bytes s ++ drop end bytes))
      (head_over end (taken ss) (run ss ++ (slot_bytes s ++ drop end bytes))
      ∙ ap (λ (l : List ℕ). head end ++ l) (sym (append_assoc (run ss) (slot_bytes s) (drop end bytes)) ∙ ap (λ (l : List ℕ). l ++ drop end bytes) (sym run_stored))
      ∙ sym (append_assoc (head end) (run (ss ++ s ∷ [])) (drop end bytes))
      ∙ ap (λ (n : ℕ). head n ++ run (ss ++ s ∷ []) ++ drop n bytes) (sym t)
      ∙ sym (over_layout (ss ++ s ∷ []) bytes (rw t fits)))

-- the slot with a number taken out, and those behind it brought down
module _ {bytes : List ℕ} {k : ℕ} {ss : List Slot} (h : Holds bytes ss) (p : Present k ss) where
  abbrev before : List Slot
  before = p.before

  abbrev behind : List Slot
  behind = p.behind

  abbrev whole : List Slot
  whole = before ++ p.slot ∷ behind

  taken_whole : taken ss ≡ taken whole
  taken_whole = ap taken p.whole

  pub taken_dropped : taken (before ++ behind) + (4 + length p.slot.digits) ≡ taken ss
  taken_dropped = omega (arith, split_taken h p, taken_append before behind)

  -- the part that is lent: the slot and what is behind it
  pub part_is : mid_of (taken before) (taken ss - taken before) bytes ≡ slot_bytes p.slot ++ run behind
  part_is =
      ap (λ (n : ℕ). take (n - taken before) (drop (taken before) bytes)) taken_whole
      ∙ holds_from before (p.slot ∷ behind) (split_holds h p)
      ∙ run_cons p.slot behind

  pub dropped_bytes : (size n : ℕ) → size ≡ 4 + length p.slot.digits → n ≡ taken ss - (taken before + size)
      → over (head (taken ss - size)) (paste bytes (taken before) (drop (taken before + size) bytes) n) ≡ over (layout (without k ss)) bytes
  unfolding layout
  dropped_bytes size n e m =
      let t : taken (before ++ behind) ≡ taken ss - size = omega (arith, taken_dropped) in
      let long : length (slot_bytes p.slot) ≡ size = slot_length p.slot ∙ sym e in
      let s = split_taken h p in
      let fits : taken (before ++ behind) ≤ length bytes = omega (arith, holds_fits h) in
      let whole_fits = holds_fits h in
      let room : taken ss - taken before ≤ length (drop (taken before) bytes) = simp length-drop (omega arith) in
      let count : n ≡ taken ss - taken before - size = omega arith in
      let short : size ≤ taken ss - taken before = omega arith in
      let back : take n (drop (taken before + size) bytes) ≡ run behind =
      rw count
      (ap (take (taken ss - taken before - size)) (sym (drop-drop size (taken before) bytes))
      ∙ sym (drop_take size (taken ss - taken before) (drop (taken before) bytes) short room)
      ∙ ap (drop size) part_is
      ∙ drop_at (slot_bytes p.slot) (run behind) size long)
      in
      let rest : taken before + n ≡ taken (before ++ behind) = omega arith in
      let front : take (taken before) bytes ≡ head (taken whole) ++ run before = holds_front before (p.slot ∷ behind) (split_holds h p) in
      rw (back, front, rest, append_assoc (head (taken whole) ++ run before) (run behind) (drop (taken (before ++ behind)) bytes), append_assoc (head (taken whole)) (run before) (run behind ++ drop (taken (before ++ behind)) bytes))
      (head_over (taken ss - size) (taken whole) (run before ++ (run behind ++ drop (taken (before ++ behind)) bytes))
      ∙ ap (λ (l : List ℕ). head (taken ss - size) ++ l)
      (sym (append_assoc (run before) (run behind) (drop (taken (before ++ behind)) bytes))
      ∙ ap (λ (l : List ℕ). l ++ drop (taken (before ++ behind)) bytes) (sym (run_append before behind)))
      ∙ ap (λ (n : ℕ). head n ++ (run (before ++ behind) ++ drop (taken (before ++ behind)) bytes)) (sym t)
      ∙ sym (append_assoc (head (taken (before ++ behind))) (run (before ++ behind)) (drop (taken (before ++ behind)) bytes))
      ∙ sym (over_layout (before ++ behind) bytes fits)
      ∙ ap (λ (l : List Slot). over (layout l) bytes) (sym p.without_is))
