-- Runs in which every digit passes a test: parts of them, joins of them, equal digits.
-- Assumes nothing.
use mathlib.Core.Path.{◌≡◌, refl, sym, ap, ◌∙◌}
use mathlib.Core.Bool.{Bool, true, false, not}
use mathlib.Core.List.{List, [], ◌∷◌, ◌++◌}
use Prim.Native.Nat.{ℕ, ◌+◌, ◌-◌, ◌≤◌, ◌<◌}
use native.Mathlib.Nat.{not-suc-le-zero}
use native.Mathlib.Omega.{arith}
use borrow.Author.Tests.{ltb-true, ltb-false, eqb-true, eqb-false, eq-eqb, ne_eqb, not-true}
use lib.Dec.{ltb, eqb}
use lib.ListN.{length, get_or, take, drop, replicate, length-append, length-take, length-drop, length-replicate, get_or-replicate, get_or-append}
use lib.Seq.{get_or-take, get_or-drop, get_or-append-add, ext_get_or}
use Rattle.run.specs.Digits.{dtx}
use Rattle.run.specs.First.{Every, like_first}
use Rattle.run.specs.Fields.{joined}
use Rattle.run.proofs.Bools.{and_left, and_right}

module _ (ok : ℕ → Bool) where
  -- every digit of the run passes
  abbrev pub Each : List ℕ → Type 0
  Each s = Every (λ (k : ℕ). ok (get_or s k 0)) (length s)

  pub each_take : (n : ℕ) (s : List ℕ) → Each s → Each (take n s)
  each_take n s all k h =
      let l = length-take n s in
      rw (get_or-take n s k 0 (omega arith)) (all k (omega arith))

  pub each_drop : (n : ℕ) (s : List ℕ) → Each s → Each (drop n s)
  each_drop n s all k h =
      let l = length-drop n s in
      rw (get_or-drop n s k 0) (all (n + k) (omega arith))

  pub each_append : (s t : List ℕ) → Each s → Each t → Each (s ++ t)
  each_append s t p q k h = side (ltb k (length s)) refl
    where
      l : length (s ++ t) ≡ length s + length t
      l = length-append s t

      side : (b : Bool) → ltb k (length s) ≡ b → ok (get_or (s ++ t) k 0) ≡ true
      side true e = let m : k < length s = ltb-true _ _ e in rw (get_or-append s t 0 k m) (p k m)
      side false e =
          let m : length s ≤ k = ltb-false _ _ e in
          let n : length s + (k - length s) ≡ k = omega arith in
          let sum = l in
          ap ok (ap (λ (j : ℕ). get_or (s ++ t) j 0) (sym n) ∙ get_or-append-add s t (k - length s) 0) ∙ q (k - length s) (omega arith)

  pub each_same : (n v : ℕ) → ok v ≡ true → Each (replicate n v)
  each_same n v h k l = ap ok (get_or-replicate n k v 0 (rw length-replicate at l)) ∙ h

  -- .. of each of the fields, and so of their join
  abbrev pub EachField : List (List ℕ) → Type 0
  EachField [] = Unit {0}
  EachField (f ∷ fs) = Each f × EachField fs

  pub each_joined : (fs : List (List ℕ)) → EachField fs → Each (joined fs)
  unfolding joined
  each_joined [] all = λ k h. absurd (not-suc-le-zero h)
  each_joined (f ∷ fs) all = each_append f (joined fs) all.0 (each_joined fs all.1)

-- a run whose digits are all like its first is its first, repeated
pub all_first : (s : List ℕ) → Every (like_first s) (length s) → replicate (length s) (get_or s 0 0) ≡ s
all_first s all =
    ext_get_or 0 (replicate (length s) (get_or s 0 0)) s (length-replicate (length s) (get_or s 0 0))
    (λ k h.
    let l : k < length s = rw length-replicate at h in
    get_or-replicate (length s) k (get_or s 0 0) 0 l ∙ sym (eqb-true _ _ (and_right (not (eqb (get_or s k 0) dtx)) _ (all k l))))

-- .. and its first is not DTX
pub first_no_dtx : (s : List ℕ) → 0 < length s → Every (like_first s) (length s) → get_or s 0 0 ≡ dtx → ⊥
first_no_dtx s some all = eqb-false _ _ (not-true _ (and_left _ _ (all 0 some)))

-- a run of one digit that is not DTX is all like its first
pub same_alike : (n v : ℕ) → (v ≡ dtx → ⊥) → Every (like_first (replicate n v)) (length (replicate n v))
same_alike n v bit k h =
    let l : k < n = rw length-replicate at h in
    let some : 0 < n = omega arith in
    rw (get_or-replicate n k v 0 l, get_or-replicate n 0 v 0 some, ne_eqb v dtx bit, eq-eqb v v refl)
