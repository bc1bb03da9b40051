-- Writing a list t over a list d₀ of the same length from the front, one entry or one part after the other.
-- Assumes nothing.
use mathlib.Core.Path.{◌≡◌, refl, sym, ap, ◌∙◌}
use mathlib.Core.List.{List, [], ◌∷◌, ◌++◌, append_assoc}
use Prim.Native.Nat.{ℕ, zero, suc, ◌+◌, ◌-◌, ◌≤◌, ◌<◌}
use native.Mathlib.Nat.{not-suc-le-zero, le_of_suc-le-suc}
use native.Mathlib.Numerals.{add-one}
use native.Mathlib.Omega.{arith}
use lib.ListN.{length, get_or, set, take, drop, replicate, take-append-drop, drop_of_length-le, length-append, length-take, length-drop}
use lib.Seq.{take_at, drop_at, take-add, length-take-le, get_or-drop, get_or-append-add}
use borrow.Rule.Slice.PartMut.{put_mid, mid_of, Post-is, mid_len}
use Rattle.run.specs.Written.{over}
use Rattle.run.proofs.Over.{over_part}

module _ {A : Type 0} where
  store_next : (t d : List A) (i : ℕ) (z : A) → i < length t → i < length d
      → set (take i t ++ drop i d) i (get_or t i z) ≡ take (suc i) t ++ drop (suc i) d
  store_next [] d i z ht hd = absurd (not-suc-le-zero ht)
  store_next (x ∷ t) [] i z ht hd = absurd (not-suc-le-zero hd)
  store_next (x ∷ t) (y ∷ d) zero z ht hd = refl
  store_next (x ∷ t) (y ∷ d) (suc i) z ht hd =
      ap (λ (l : List A). x ∷ l) (store_next t d i z (le_of_suc-le-suc ht) (le_of_suc-le-suc hd))

  -- the first a entries are t's, and the others are as they were
  pub record Front (t d₀ d : List A) (a : ℕ) : Type 0 where
    pub sized : length t ≡ length d₀
    pub within : a ≤ length d₀
    pub is : d ≡ take a t ++ drop a d₀

  pub front_none : {t d₀ : List A} → length t ≡ length d₀ → Front t d₀ d₀ 0
  front_none e = record { sized = e; within = omega arith; is = refl }

  pub front_length : {t d₀ d : List A} {a : ℕ} → Front t d₀ d a → length d ≡ length d₀
  front_length {t} {d₀} {d} {a} f =
      let e = f.sized in
      let w = f.within in
      ap length f.is ∙ simp (length-append, length-take, length-drop) (omega arith)

  -- behind the front is what was there
  pub front_behind : {t d₀ d : List A} {a : ℕ} (z : A) → Front t d₀ d a → (k : ℕ) → a ≤ k → get_or d k z ≡ get_or d₀ k z
  front_behind {t} {d₀} {d} {a} z f k h =
      let s = f.sized in
      let w = f.within in
      let n : length (take a t) ≡ a = length-take-le a t (omega arith) in
      let e : a + (k - a) ≡ k = omega arith in
      ap (λ (l : List A). get_or l k z) f.is
      ∙ ap (λ (j : ℕ). get_or (take a t ++ drop a d₀) j z) (sym e)
      ∙ rw n at (get_or-append-add (take a t) (drop a d₀) (k - a) z)
      ∙ get_or-drop a d₀ (k - a) z
      ∙ ap (λ (j : ℕ). get_or d₀ j z) e

  pub front_next : {t d₀ d : List A} {a : ℕ} (z : A) → Front t d₀ d a → a < length d₀ → get_or d a z ≡ get_or d₀ a z
  front_next {t} {d₀} {d} {a} z f h = front_behind z f a (omega arith)

  -- one entry more
  pub front_store : {t d₀ d : List A} {i : ℕ} {v : A} (z : A) → Front t d₀ d i → i < length d → v ≡ get_or t i z → Front t d₀ (set d i v) (i + 1)
  front_store {t} {d₀} {d} {i} {v} z f h e =
      let l = front_length f in
      let s = f.sized in
      record {
        sized = s;
        within = omega arith;
        is = rw (f.is, e, add-one) (store_next t d₀ i z (omega arith) (omega arith));
      }

  -- the part from a to e is lent, and comes back as t has it
  pub front_part : {t d₀ d ys : List A} {a : ℕ} (e : ℕ) → Front t d₀ d a → a ≤ e → e ≤ length d₀ → ys ≡ take (e - a) (drop a t)
      → Front t d₀ (put_mid a (e - a) d ys) e
  front_part {t} {d₀} {d} {ys} {a} e f h w k =
      let s = f.sized in
      let p : length (take a t) ≡ a = length-take-le a t (omega arith) in
      let joins : a + (e - a) ≡ e = omega arith in
      record {
        sized = s;
        within = w;
        is =
            rw (f.is, take_at (take a t) (drop a d₀) a p, drop_at (take a t) (drop a d₀) a p, Post-is a e d₀ h, k, ← append_assoc)
            (ap (λ (l : List A). l ++ drop e d₀) (sym (take-add a (e - a) t) ∙ ap (λ (n : ℕ). take n t) joins));
      }

  -- the part that is lent has as many entries as its bounds say
  pub front_lent : {t d₀ d : List A} {a : ℕ} (b e : ℕ) → Front t d₀ d a → e ≤ length d₀ → length (mid_of b (e - b) d) ≡ e - b
  front_lent {t} {d₀} {d} b e f h = let l = front_length f in mid_len b e d (omega arith)

  -- the part comes back filled with v
  pub front_fill : {t d₀ d ys : List A} {a : ℕ} (e : ℕ) (v : A) → Front t d₀ d a → a ≤ e → e ≤ length d₀
      → ys ≡ replicate (length (mid_of a (e - a) d)) v → replicate (e - a) v ≡ take (e - a) (drop a t)
      → Front t d₀ (put_mid a (e - a) d ys) e
  front_fill {t} {d₀} {d} {ys} {a} e v f h w y same =
      front_part e f h w (y ∙ ap (λ (n : ℕ). replicate n v) (front_lent a e f w) ∙ same)

  -- the part comes back with a run written over it that is long enough
  pub front_copy : {t d₀ d ys : List A} {a : ℕ} (e : ℕ) (src : List A) → Front t d₀ d a → a ≤ e → e ≤ length d₀ → e - a ≤ length src
      → ys ≡ over src (mid_of a (e - a) d) → take (e - a) src ≡ take (e - a) (drop a t)
      → Front t d₀ (put_mid a (e - a) d ys) e
  front_copy {t} {d₀} {d} {ys} {a} e src f h w long y same =
      let n = front_lent a e f w in
      front_part e f h w (y ∙ over_part src (mid_of a (e - a) d) (rw n long) ∙ ap (λ (k : ℕ). take k src) n ∙ same)

  -- where what is left of t is what was there, all is t
  pub front_end : {t d₀ d : List A} {a : ℕ} → Front t d₀ d a → drop a t ≡ drop a d₀ → d ≡ t
  front_end {t} {d₀} {d} {a} f e = f.is ∙ rw (← e) (take-append-drop a t)

  pub front_all : {t d₀ d : List A} {a : ℕ} → Front t d₀ d a → length d₀ ≤ a → d ≡ t
  front_all {t} {d₀} {d} {a} f h =
      let s = f.sized in
      let ht : length t ≤ a = omega arith in
      front_end f (rw (drop_of_length-le t ht, drop_of_length-le d₀ h))
