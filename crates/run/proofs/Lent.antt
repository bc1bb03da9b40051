-- Parts of a run as the code lends them, `&s[a..a + w]`: their length and entries, and a part that is copied to its place.
-- Assumes nothing.
use mathlib.Core.Path.{◌≡◌, sym, ◌∙◌}
use mathlib.Core.List.{List}
use Prim.Native.Nat.{ℕ, ◌+◌, ◌-◌, ◌≤◌, ◌<◌}
use native.Mathlib.Omega.{arith}
use borrow.Rule.Slice.PartMut.{put_mid, mid_of}
use lib.ListN.{length, get_or, take, drop, length-drop}
use lib.Seq.{ext_get_or, get_or-take, get_or-drop, length-take-le, take_all}
use Rattle.run.specs.Written.{over}
use Rattle.run.proofs.Front.{Front, front_lent, front_part}
use Rattle.run.proofs.Over.{over_whole}

-- as many entries as the bounds are apart
pub part_width : (a w : ℕ) → a + w - a ≡ w
part_width a w = omega arith

module _ {A : Type 0} where
  pub part_length : (s : List A) (a w : ℕ) → a + w ≤ length s → length (take (a + w - a) (drop a s)) ≡ w
  part_length s a w h =
      let room : w ≤ length (drop a s) = simp length-drop (omega arith) in
      rw (part_width a w) (length-take-le w (drop a s) room)

  pub part_at : (s : List A) (a w j : ℕ) (z : A) → j < w → get_or (take (a + w - a) (drop a s)) j z ≡ get_or s (a + j) z
  part_at s a w j z h = rw (part_width a w) (get_or-take w (drop a s) j z h ∙ get_or-drop a s j z)

  -- the part from a to the run's end is what is left of it
  pub rest_of : (a : ℕ) (s : List A) → take (length s - a) (drop a s) ≡ drop a s
  rest_of a s = take_all (length s - a) (drop a s) (simp length-drop (omega arith))

  -- parts that agree at each place are equal
  pub same_part : (z : A) (s t : List A) (a b w : ℕ) → a + w ≤ length s → b + w ≤ length t → ((j : ℕ) → j < w → get_or s (a + j) z ≡ get_or t (b + j) z)
      → take w (drop a s) ≡ take w (drop b t)
  same_part z s t a b w h l same =
      let p : length (take w (drop a s)) ≡ w = rw (part_width a w) at (part_length s a w h) in
      let q : length (take w (drop b t)) ≡ w = rw (part_width b w) at (part_length t b w l) in
      ext_get_or z (take w (drop a s)) (take w (drop b t)) (p ∙ sym q)
      (λ j m.
      let n : j < w = rw p at m in
      get_or-take w (drop a s) j z n ∙ get_or-drop a s j z ∙ same j n ∙ sym (get_or-take w (drop b t) j z n ∙ get_or-drop b t j z))

  -- the part from a on is lent, and src, as t has it there, is copied into it
  pub front_copied : {t d₀ d ys : List A} (src : List A) (a w : ℕ) → Front t d₀ d a → a + w ≤ length d₀ → length src ≡ w → src ≡ take w (drop a t)
      → ys ≡ over src (mid_of a (a + w - a) d) → Front t d₀ (put_mid a (a + w - a) d ys) (a + w)
  front_copied {t} {d₀} {d} {ys} src a w f h long is e =
      let lent : length (mid_of a (a + w - a) d) ≡ w = front_lent a (a + w) f h ∙ part_width a w in
      let whole : ys ≡ src = e ∙ over_whole src (mid_of a (a + w - a) d) (long ∙ sym lent) in
      let there : ys ≡ take (a + w - a) (drop a t) = rw (part_width a w) (whole ∙ is) in
      front_part (a + w) f (omega arith) h there
