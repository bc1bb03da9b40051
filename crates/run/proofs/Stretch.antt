-- Fields as the code lends them, stretch by stretch: a run of fields written, and the fields of a run checked and taken; for any list of widths.
-- Assumes nothing.
use mathlib.Core.Path.{◌≡◌, sym, ap, ◌∙◌, subst}
use mathlib.Core.Bool.{Bool}
use mathlib.Core.List.{List, [], map}
use Prim.Native.Nat.{ℕ, ◌+◌, ◌-◌, ◌≤◌, ◌<◌, min}
use native.Mathlib.Omega.{arith}
use borrow.Rule.Slice.PartMut.{put_mid, mid_of}
use lib.Dec.{leb}
use lib.ListN.{length, get_or, take, drop, replicate}
use Rattle.run.specs.Verdict.{Verdict}
use Rattle.run.specs.First.{first_bad, agree}
use Rattle.run.specs.Fields.{total, joined, field, start}
use Rattle.run.specs.Verdicts.{unless, each}
use Rattle.run.specs.Written.{over}
use Rattle.run.proofs.Chain.{each_is}
use Rattle.run.proofs.Each.{Each, each_take, each_drop}
use Rattle.run.proofs.Fields.{field_room, field_is, field_lent, field_joined, field_length, field_at}
use Rattle.run.proofs.First.{begins_scan}
use Rattle.run.proofs.Front.{Front, front_fill, front_copy}
use Rattle.run.proofs.Over.{over_whole}

-- the fields fs, of widths ws, written over a run d₀ of the same length; the stretch of field k is lent from a to e
module _ {A : Type 0} (ws : List ℕ) (fs : List (List A)) (sized : map length fs ≡ ws) (d₀ : List A) (room : length d₀ ≡ total ws)
    (k a e : ℕ) (h : k < length ws) (p : a ≡ start k ws) (q : e ≡ a + get_or ws k 0) where
  stretch : get_or fs k [] ≡ take (e - a) (drop a (joined fs))
  stretch = sym (field_lent k a e ws (joined fs) h p q ∙ field_joined k ws fs sized)

  width : e - a ≡ get_or ws k 0
  width = omega arith

  ends : e ≤ length d₀
  ends = let r = field_room k ws h in omega arith

  -- it comes back with a run copied into it that begins with the field
  pub field_copied : {x y : List A} (src : List A) → Front (joined fs) d₀ x a → get_or ws k 0 ≤ length src → y ≡ over src (mid_of a (e - a) x) → take (get_or ws k 0) src ≡ get_or fs k []
      → Front (joined fs) d₀ (put_mid a (e - a) x y) e
  field_copied src f long y same =
      front_copy e src f (omega arith) ends (let w = width in omega arith) y (ap (λ (n : ℕ). take n src) width ∙ same ∙ stretch)

  -- .. or filled with v
  pub field_filled : {x y : List A} (v : A) → Front (joined fs) d₀ x a → y ≡ replicate (length (mid_of a (e - a) x)) v → replicate (get_or ws k 0) v ≡ get_or fs k []
      → Front (joined fs) d₀ (put_mid a (e - a) x y) e
  field_filled v f y same = front_fill e v f (omega arith) ends y (ap (λ (n : ℕ). replicate n v) width ∙ same ∙ stretch)

-- entry i of field k of joined fields
pub joined_at : {A : Type 0} (ws : List ℕ) (fs : List (List A)) → map length fs ≡ ws → (k i : ℕ) (z : A) → k < length ws → i < get_or ws k 0
    → get_or (joined fs) (start k ws + i) z ≡ get_or (get_or fs k []) i z
joined_at {A} ws fs sized k i z h l = sym (field_at k ws (joined fs) i z h l) ∙ ap (λ (f : List A). get_or f i z) (field_joined k ws fs sized)

-- what holds of every digit of a run holds of every digit of its fields
pub each_field : (ok : ℕ → Bool) (k : ℕ) (ws xs : List ℕ) → k < length ws → Each ok xs → Each ok (field k ws xs)
each_field ok k ws xs h all =
    subst (λ (s : List ℕ). Each ok s) (sym (field_is k ws xs h)) (each_take ok (get_or ws k 0) (drop (start k ws) xs) (each_drop ok (start k ws) xs all))

-- field k of a run, lent from a to e
module _ (ws xs : List ℕ) (k a e : ℕ) (h : k < length ws) (p : a ≡ start k ws) (q : e ≡ a + get_or ws k 0) where
  pub lent_long : total ws ≤ length xs → length (take (e - a) (drop a xs)) ≡ get_or ws k 0
  lent_long room = ap length (field_lent k a e ws xs h p q) ∙ field_length k ws xs h room

  -- what a scan of it answers is the check of the field
  pub check_field : (base number : ℕ) (ok : List ℕ → ℕ → Bool) (i : ℕ) (r : Verdict)
      → i ≡ first_bad (ok (take (e - a) (drop a xs))) (length (take (e - a) (drop a xs)))
      → r ≡ unless (leb (length (take (e - a) (drop a xs))) i) number (base + a + i)
      → r ≡ each (base + start k ws) number (ok (field k ws xs)) (length (field k ws xs))
  check_field base number ok i r found is =
      rw (← field_lent k a e ws xs h p q, ← p)
      (each_is (base + a) number (ok (take (e - a) (drop a xs))) (length (take (e - a) (drop a xs))) i r found is)

  -- .. and so where it is compared with what begins with its pattern
  pub check_pattern : total ws ≤ length xs → (source : ℕ → List ℕ) (pattern : List ℕ) → pattern ≡ take (get_or ws k 0) (source (get_or ws k 0)) → get_or ws k 0 ≤ length (source (get_or ws k 0))
      → (base number i : ℕ) (r : Verdict)
      → i ≡ first_bad (agree (take (e - a) (drop a xs)) (source (length (take (e - a) (drop a xs)))))
      (min (length (take (e - a) (drop a xs))) (length (source (length (take (e - a) (drop a xs))))))
      → r ≡ unless (leb (length (take (e - a) (drop a xs))) i) number (base + a + i)
      → r ≡ each (base + start k ws) number (agree (field k ws xs) pattern) (length (field k ws xs))
  check_pattern room source pattern cut enough base number i r found is =
      let n = lent_long room in
      check_field base number (λ (s : List ℕ). agree s pattern) i r
      (found ∙ begins_scan (take (e - a) (drop a xs)) (source (length (take (e - a) (drop a xs)))) pattern (rw n cut) (rw n enough)) is

  -- a copy of it into a run of its length is the field
  pub field_taken : total ws ≤ length xs → (out y : List ℕ) → length out ≡ get_or ws k 0 → y ≡ over (take (e - a) (drop a xs)) out → y ≡ field k ws xs
  field_taken room out y long is =
      is ∙ over_whole (take (e - a) (drop a xs)) out (lent_long room ∙ sym long) ∙ field_lent k a e ws xs h p q
