-- The circle of signatures: places and signatures are one to one, and what is counted by signatures is counted by places.
-- Assumes nothing.
use mathlib.Core.Path.{◌≡◌, refl, sym, ap, ◌∙◌}
use mathlib.Core.Bool.{Bool, true, false, ◌&&◌, and-true, and-false}
use Prim.Native.Nat.{ℕ, zero, suc, ◌+◌, ◌≤◌, ◌<◌}
use native.Mathlib.Omega.{arith}
use borrow.Author.Tests.{ltb-true, ltb-false, lt-ltb, le-ltb}
use lib.Dec.{ltb}
use Rattle.run.specs.Count.{count}
use Rattle.desk.specs.Rule.{place_of, signature_at}
use Rattle.run.proofs.Count.{count_same, count_none, count_point}

pub place_small : (last s : ℕ) → place_of last s < 16
unfolding place_of
place_small last s = omega arith

pub signature_small : (last p : ℕ) → signature_at last p < 16
unfolding signature_at
signature_small last p = omega arith

module _ (last : ℕ) (fits : last ≤ 15) where
  pub place_at : (p : ℕ) → p < 16 → place_of last (signature_at last p) ≡ p
  unfolding place_of signature_at
  place_at p h = omega arith

  pub at_place : (s : ℕ) → s < 16 → signature_at last (place_of last s) ≡ s
  unfolding place_of signature_at
  at_place s h = omega arith

  -- where the desk moves on to a place before that of s, s stands nearer by as many places
  pub place_moved : (q s : ℕ) → s < 16 → q < place_of last s → place_of (signature_at last q) s + (q + 1) ≡ place_of last s
  unfolding place_of signature_at
  place_moved q s h l = omega arith

  module _ (test : ℕ → Bool) where
    -- signature t passes, and stands before place m
    by : ℕ → ℕ → Bool
    by m t = test t && ltb (place_of last t) m

    other : (m t : ℕ) → m < 16 → t < 16 → (t ≡ signature_at last m → ⊥) → by m t ≡ by (suc m) t
    unfolding by
    other m t h l ne = side (ltb (place_of last t) m) refl
      where
        side : (b : Bool) → ltb (place_of last t) m ≡ b → (test t && b) ≡ (test t && ltb (place_of last t) (suc m))
        side true e = let below = ltb-true (place_of last t) m e in rw (lt-ltb (place_of last t) (suc m) (omega arith))
        side false e =
            let above = ltb-false (place_of last t) m e in
            let apart : place_of last t ≡ m → ⊥ = λ is. ne (sym (at_place t l) ∙ ap (signature_at last) is) in
            rw (le-ltb (place_of last t) (suc m) (omega (arith, apart)))

    -- the signatures before place m that pass are counted place by place
    pub by_places : (m : ℕ) → m ≤ 16 → count 16 (λ (t : ℕ). test t && ltb (place_of last t) m) ≡ count m (λ (p : ℕ). test (signature_at last p))
    unfolding count by
    by_places zero h = count_none 16 (by 0) (λ t l. rw (le-ltb (place_of last t) 0 (omega arith)) (and-false (test t)))
    by_places (suc m) h =
        let t = signature_at last m in
        let place = place_at m (omega arith) in
        let here : by m t ≡ false = rw (le-ltb (place_of last t) m (omega arith)) (and-false (test t)) in
        let there : by (suc m) t ≡ test t = rw (lt-ltb (place_of last t) (suc m) (omega arith)) (and-true (test t)) in
        count_point 16 t (by m) (by (suc m)) (signature_small last m) here (λ k l ne. other m k (omega arith) l ne)
        ∙ rw (by_places m (omega arith), there)

    -- all of them
    pub all_places : count 16 test ≡ count 16 (λ (p : ℕ). test (signature_at last p))
    all_places =
        count_same 16 test (λ (t : ℕ). test t && ltb (place_of last t) 16) (λ t l. sym (rw (lt-ltb (place_of last t) 16 (place_small last t)) (and-true (test t))))
        ∙ by_places 16 (omega arith)
