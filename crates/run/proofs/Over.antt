-- A run written over the front of another.
-- Assumes nothing.
use mathlib.Core.Path.{◌≡◌, refl, ap, ◌∙◌}
use mathlib.Core.Bool.{Bool, true, false}
use mathlib.Core.List.{List, append-nil}
use Prim.Native.Nat.{ℕ, ◌≤◌, ◌<◌, min}
use native.Mathlib.Omega.{arith}
use borrow.Author.Tests.{leb-true, leb-false}
use lib.Dec.{leb}
use lib.ListN.{length, get_or, take, drop, drop_of_length-le, length-append, length-take, length-drop, get_or-append}
use lib.Seq.{take_all, drop_at, get_or-take}
use Rattle.run.specs.Written.{over}

module _ {A : Type 0} (src dst : List A) where
  pub over_length : length (over src dst) ≡ length dst
  unfolding over
  over_length = simp (length-append, length-take, length-drop) (omega arith)

  pub over_at : (i : ℕ) (z : A) → i < min (length dst) (length src) → get_or (over src dst) i z ≡ get_or src i z
  unfolding over
  over_at i z h =
      let k : i < length (take (length dst) src) = simp length-take (omega arith) in
      let l : i < length dst = omega arith in
      get_or-append (take (length dst) src) (drop (length src) dst) z i k ∙ get_or-take (length dst) src i z l

  rest : (i : ℕ) (b : Bool) → leb (length src) (length dst) ≡ b → i ≡ min (length dst) (length src) → drop (length src) dst ≡ drop i dst
  rest i true t e =
      let h : length src ≤ length dst = leb-true _ _ t in
      let k : length src ≡ i = omega arith in
      ap (λ (n : ℕ). drop n dst) k
  rest i false t e =
      let h : length dst < length src = leb-false _ _ t in
      let a : length dst ≤ length src = omega arith in
      let b : length dst ≤ i = omega arith in
      rw (drop_of_length-le dst a, drop_of_length-le dst b)

  -- behind what was written all is as it was
  pub over_rest : (i : ℕ) → i ≡ min (length dst) (length src) → drop i (over src dst) ≡ drop i dst
  unfolding over
  over_rest i e =
      let k : length (take (length dst) src) ≡ i = simp length-take (omega arith) in
      drop_at (take (length dst) src) (drop (length src) dst) i k ∙ rest i (leb (length src) (length dst)) refl e

  -- a run as long as the other takes its place
  pub over_whole : length src ≡ length dst → over src dst ≡ src
  unfolding over
  over_whole e =
      let h : length src ≤ length dst = omega arith in
      let k : length dst ≤ length src = omega arith in
      rw (take_all (length dst) src h, drop_of_length-le dst k, append-nil)

  -- a run that is long enough fills the other
  pub over_part : length dst ≤ length src → over src dst ≡ take (length dst) src
  unfolding over
  over_part h = rw (drop_of_length-le dst h, append-nil)
