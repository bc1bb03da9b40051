-- Cutting a run into fields and joining fields to a run undo each other, for any list of widths.
-- Assumes nothing.
use mathlib.Core.Path.{◌≡◌, refl, sym, ap, ◌∙◌}
use mathlib.Core.List.{List, [], ◌∷◌, map}
use Prim.Native.Nat.{ℕ, zero, suc, ◌+◌, ◌-◌, ◌≤◌, ◌<◌}
use native.Mathlib.Nat.{not-suc-le-zero, le_of_suc-le-suc}
use native.Mathlib.Omega.{arith}
use lib.ListN.{length, get_or, take, drop, take-append-drop, length-append, length-drop}
use lib.Seq.{take_at, drop_at, drop-drop, length-take-le, get_or-take, get_or-drop}
use Rattle.run.specs.Fields.{total, cut, joined, field, start}

-- the run has room for each field
pub field_room : (k : ℕ) (ws : List ℕ) → k < length ws → start k ws + get_or ws k 0 ≤ total ws
unfolding start total
field_room k [] h = absurd (not-suc-le-zero h)
field_room zero (w ∷ ws) h = omega arith
field_room (suc k) (w ∷ ws) h = let r = field_room k ws (le_of_suc-le-suc h) in omega arith

module _ {A : Type 0} where
  -- the digits of the join are those of all fields
  pub joined_length : (fs : List (List A)) → length (joined fs) ≡ total (map length fs)
  unfolding total joined
  joined_length [] = refl
  joined_length (f ∷ fs) = length-append f (joined fs) ∙ ap (λ (n : ℕ). length f + n) (joined_length fs)

  -- each field of a cut has its width
  pub cut_widths : (ws : List ℕ) (s : List A) → total ws ≤ length s → map length (cut ws s) ≡ ws
  unfolding total cut
  cut_widths [] s h = refl
  cut_widths (w ∷ ws) s h =
      let p : length (take w s) ≡ w = length-take-le w s (omega arith) in
      let q : total ws ≤ length (drop w s) = simp length-drop (omega arith) in
      rw (p, cut_widths ws (drop w s) q)

  -- a run that the fields fill exactly is the join of its cut
  pub joined_cut : (ws : List ℕ) (s : List A) → length s ≡ total ws → joined (cut ws s) ≡ s
  unfolding total cut joined
  joined_cut [] [] h = refl
  joined_cut [] (x ∷ s) h = absurd (let z : ⊥ = omega arith in z)
  joined_cut (w ∷ ws) s h =
      let q : length (drop w s) ≡ total ws = simp length-drop (omega arith) in
      rw (joined_cut ws (drop w s) q) (take-append-drop w s)

  -- the cut of a join, at the fields' own widths, is the fields
  pub cut_joined : (ws : List ℕ) (fs : List (List A)) → map length fs ≡ ws → cut ws (joined fs) ≡ fs
  unfolding cut joined
  cut_joined ws fs e = rw (← e) (own fs)
    where
      own : (gs : List (List A)) → cut (map length gs) (joined gs) ≡ gs
      own [] = refl
      own (g ∷ gs) = rw (take_at g (joined gs) (length g) refl, drop_at g (joined gs) (length g) refl, own gs)

  -- field k is the stretch of its width from where it begins
  pub field_is : (k : ℕ) (ws : List ℕ) (s : List A) → k < length ws → field k ws s ≡ take (get_or ws k 0) (drop (start k ws) s)
  unfolding field start cut total
  field_is k [] s h = absurd (not-suc-le-zero h)
  field_is zero (w ∷ ws) s h = refl
  field_is (suc k) (w ∷ ws) s h =
      field_is k ws (drop w s) (le_of_suc-le-suc h) ∙ ap (λ (l : List A). take (get_or ws k 0) l) (drop-drop (total (take k ws)) w s)

  -- .. as a part of the run is lent
  pub field_lent : (k a e : ℕ) (ws : List ℕ) (s : List A) → k < length ws → a ≡ start k ws → e ≡ a + get_or ws k 0 → take (e - a) (drop a s) ≡ field k ws s
  field_lent k a e ws s h p q =
      let w : e - a ≡ get_or ws k 0 = omega arith in
      rw (w, p) (sym (field_is k ws s h))

  -- field k of joined fields is the k-th of them
  pub field_joined : (k : ℕ) (ws : List ℕ) (fs : List (List A)) → map length fs ≡ ws → field k ws (joined fs) ≡ get_or fs k []
  unfolding field
  field_joined k ws fs e = ap (λ (l : List (List A)). get_or l k []) (cut_joined ws fs e)

  pub field_length : (k : ℕ) (ws : List ℕ) (s : List A) → k < length ws → total ws ≤ length s → length (field k ws s) ≡ get_or ws k 0
  field_length k ws s h l =
      let r = field_room k ws h in
      let room : get_or ws k 0 ≤ length (drop (start k ws) s) = simp length-drop (omega arith) in
      ap length (field_is k ws s h) ∙ length-take-le (get_or ws k 0) (drop (start k ws) s) room

  -- entry i of field k stands i places behind the field's start
  pub field_at : (k : ℕ) (ws : List ℕ) (s : List A) (i : ℕ) (d : A) → k < length ws → i < get_or ws k 0 → get_or (field k ws s) i d ≡ get_or s (start k ws + i) d
  field_at k ws s i d h l =
      ap (λ (f : List A). get_or f i d) (field_is k ws s h) ∙ get_or-take (get_or ws k 0) (drop (start k ws) s) i d l ∙ get_or-drop (start k ws) s i d
