-- Access slots in a row: how near an unserved signature comes, and the sequence in which one waits longest.
-- Assumes nothing.
use mathlib.Core.Path.{◌≡◌, refl, ◌∙◌}
use mathlib.Core.Bool.{Bool, true, ◌&&◌}
use Prim.Native.Nat.{ℕ, zero, suc, ◌+◌, ◌-◌, ◌*◌, ◌%◌, ◌≤◌, ◌<◌}
use native.Mathlib.Numerals.{add-one}
use native.Mathlib.Nat.{suc-mul, mul-le-mul_right}
use native.Mathlib.Omega.{arith}
use borrow.Author.Tests.{leb-true, ltb-true, lt-ltb}
use lib.Dec.{ltb, leb}
use Rattle.run.specs.First.{first_bad}
use Rattle.run.proofs.First.{every_by}
use Rattle.run.proofs.Bools.{and_right}
use Rattle.aich.specs.Rule.{offers}
use Rattle.run.specs.Count.{count}
use Rattle.desk.specs.Rule.{candidate, place_of, signature_at, ahead, last_after, fresh_last}
use Rattle.desk.specs.Exact.{desk_at, turns}
use Rattle.desk.proofs.Circle.{place_small, signature_small}
use Rattle.desk.proofs.Serving.{ahead_is, somebody, after_small, nearer}

-- ---- ⌈16/n⌉ for n from 1 to 16: one computed test for each bound

pub turns_enough : (n : ℕ) → 1 ≤ n → n ≤ 16 → 16 ≤ turns n * n
unfolding first_bad turns
turns_enough zero h l = absurd (let z : ⊥ = omega arith in z)
turns_enough (suc m) h l = leb-true _ _ (every_by (λ (k : ℕ). leb 16 (turns (suc k) * suc k)) 16 refl m (omega arith))

pub turns_needed : (n k : ℕ) → 1 ≤ n → n ≤ 16 → k + 1 < turns n → (k + 1) * n ≤ 15
unfolding first_bad turns
turns_needed zero k h l w = absurd (let z : ⊥ = omega arith in z)
turns_needed (suc m) k h l w =
    let most : (turns (suc m) - 1) * suc m ≤ 15 = leb-true _ _ (every_by (λ (j : ℕ). leb ((turns (suc j) - 1) * suc j) 15) 16 refl m (omega arith)) in
    let below : k + 1 ≤ turns (suc m) - 1 = omega arith in
    let less = mul-le-mul_right (suc m) below in
    omega arith

-- ---- any sequence

module _ (heard : ℕ → ℕ) (available n last : ℕ) (some : 1 ≤ n) (fits : last ≤ 15) where
  abbrev desk : ℕ → ℕ
  desk k = desk_at heard available n last k

  abbrev asks : ℕ → ℕ → Bool
  asks k = candidate (heard k) available

  pub desk_small : (k : ℕ) → desk k ≤ 15
  unfolding desk_at
  desk_small zero = fits
  desk_small (suc k) = after_small (asks k) (desk k) n (desk_small k)

  module _ (s start : ℕ) (h : s < 16) where
    -- one slot in which s asks and is not served
    turn : (k : ℕ) → asks k s ≡ true → n ≤ ahead (asks k) (desk k) s → place_of (desk (suc k)) s + n ≤ place_of (desk k) s
    unfolding desk_at
    turn k e l =
        let small = desk_small k in
        nearer (asks k) (desk k) n small s h e (somebody (asks k) (desk k) n small some s h e) l

    -- k of them
    pub waits : (k : ℕ) → ((j : ℕ) → j < k → (asks (start + j) s ≡ true) × (n ≤ ahead (asks (start + j)) (desk (start + j)) s))
        → place_of (desk (start + k)) s + k * n ≤ 15
    waits zero all = let l = place_small (desk (start + 0)) s in omega arith
    waits (suc k) all =
        let rest = waits k (λ j l. all j (omega arith)) in
        let now = all k (omega arith) in
        let e : start + suc k ≡ suc (start + k) = omega arith in
        let step = turn (start + k) now.0 now.1 in
        rw (e, suc-mul k n) (omega arith)

-- ---- all sixteen heard in every slot

abbrev pub all : ℕ → Bool
all = candidate 65535 65535

all_ask : (s : ℕ) → s < 16 → all s ≡ true
unfolding first_bad candidate offers
all_ask = every_by all 16 refl

full : (m : ℕ) (f : ℕ → Bool) → ((k : ℕ) → k < m → f k ≡ true) → count m f ≡ m
unfolding count
full zero f h = refl
full (suc m) f h = let rest = full m f (λ k l. h k (omega arith)) in rw (rest, h m (omega arith)) (omega arith)

module _ (n : ℕ) (some : 1 ≤ n) (most : n ≤ 16) where
  module _ (last : ℕ) (fits : last ≤ 15) where
    met : (m : ℕ) → count m (λ (p : ℕ). all (signature_at last p)) ≡ m
    met m = full m _ (λ p h. all_ask (signature_at last p) (signature_small last p))

    pub all_ahead : (s : ℕ) → ahead all last s ≡ place_of last s
    all_ahead s = ahead_is all last n fits s ∙ met (place_of last s)

    -- n places on
    pub all_after : last_after all last n ≡ (last + n) % 16
    unfolding signature_at
    all_after =
        let high = somebody all last n fits some 0 (omega arith) (all_ask 0 (omega arith)) in
        let q = high.place in
        let w = high.within in
        let low : q < n = rw (met q) at (ltb-true (count q (λ (p : ℕ). all (signature_at last p))) n (and_right (all (signature_at last q)) _ high.one)) in
        let there : (all (signature_at last (n - 1)) && ltb (count (n - 1) (λ (p : ℕ). all (signature_at last p))) n) ≡ true =
        rw (all_ask (signature_at last (n - 1)) (signature_small last (n - 1)), met (n - 1)) (lt-ltb (n - 1) n (omega arith))
        in
        let least = high.above (n - 1) (omega arith) there in
        let e : q ≡ n - 1 = omega arith in
        high.is ∙ omega arith

  pub all_desk : (k : ℕ) → desk_at (λ (j : ℕ). 65535) 65535 n fresh_last k ≡ (15 + k * n) % 16
  unfolding desk_at
  all_desk zero = omega arith
  all_desk (suc k) =
      let e = all_desk k in
      let l : desk_at (λ (j : ℕ). 65535) 65535 n fresh_last k ≤ 15 = omega arith in
      all_after (desk_at (λ (j : ℕ). 65535) 65535 n fresh_last k) l ∙ rw (suc-mul k n) (omega arith)

  -- signature 15 still has n before it, where a slot more is needed
  pub all_behind : (k : ℕ) → (k + 1) * n ≤ 15 → n ≤ ahead all (desk_at (λ (j : ℕ). 65535) 65535 n fresh_last k) 15
  unfolding place_of
  all_behind k h =
      let e = all_desk k in
      let l : desk_at (λ (j : ℕ). 65535) 65535 n fresh_last k ≤ 15 = omega arith in
      let m : (k + 1) * n ≡ k * n + n = rw (add-one k) (suc-mul k n) in
      rw (all_ahead (desk_at (λ (j : ℕ). 65535) 65535 n fresh_last k) l 15) (omega arith)
