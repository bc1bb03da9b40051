-- How many places pass a test.
-- Assumes nothing.
use mathlib.Core.Path.{◌≡◌, refl, sym, ap, ◌∙◌}
use mathlib.Core.Bool.{Bool, true, false, cond}
use Prim.Native.Nat.{ℕ, zero, suc, ◌+◌, ◌≤◌, ◌<◌}
use native.Mathlib.Nat.{add-zero, add-suc}
use native.Mathlib.Numerals.{add-one}
use native.Mathlib.Omega.{arith}
use borrow.Author.Tests.{eqb-true, eqb-false}
use lib.Dec.{eqb}
use Rattle.run.specs.Count.{count}

-- one place more
pub count_more : (n : ℕ) (test : ℕ → Bool) → count (n + 1) test ≡ count n test + cond (test n) 1 0
unfolding count
count_more n test = rw (add-one n)

pub count_same : (n : ℕ) (f g : ℕ → Bool) → ((k : ℕ) → k < n → f k ≡ g k) → count n f ≡ count n g
unfolding count
count_same zero f g same = refl
count_same (suc n) f g same =
    let rest = count_same n f g (λ k h. same k (omega arith)) in
    rw (rest, same n (omega arith))

pub count_none : (n : ℕ) (f : ℕ → Bool) → ((k : ℕ) → k < n → f k ≡ false) → count n f ≡ 0
unfolding count
count_none zero f all = refl
count_none (suc n) f all =
    let rest = count_none n f (λ k h. all k (omega arith)) in
    rw (rest, all n (omega arith))

-- the first m places and the n after them
pub count_sum : (m n : ℕ) (f : ℕ → Bool) → count (m + n) f ≡ count m f + count n (λ (k : ℕ). f (m + k))
unfolding count
count_sum m zero f = ap (λ (k : ℕ). count k f) (add-zero m) ∙ omega arith
count_sum m (suc n) f =
    let rest = count_sum m n f in
    ap (λ (k : ℕ). count k f) (add-suc m n) ∙ (rw rest (omega arith))

abbrev one : Bool → ℕ
one b = cond b 1 0

one_le : (b : Bool) → cond b 1 0 ≤ 1
one_le true = omega arith
one_le false = omega arith

pub count_le : (n : ℕ) (f : ℕ → Bool) → count n f ≤ n
unfolding count
count_le zero f = omega arith
count_le (suc n) f = let rest = count_le n f in let last = one_le (f n) in omega arith

-- a longer stretch has no fewer
pub count_grows : (m n : ℕ) (f : ℕ → Bool) → m ≤ n → count m f ≤ count n f
unfolding count
count_grows m zero f h = let e : m ≡ 0 = omega arith in rw e (omega arith)
count_grows m (suc n) f h = side (eqb m (suc n)) refl (λ l. count_grows m n f l)
  where
    side : (b : Bool) → eqb m (suc n) ≡ b → (m ≤ n → count m f ≤ count n f) → count m f ≤ count n f + cond (f n) 1 0
    side true e rest = let is : m ≡ suc n = eqb-true _ _ e in rw is (omega arith)
    side false e rest = let ne = eqb-false m (suc n) e in let l = rest (omega (arith, ne)) in omega arith

-- where all that pass are below m, there are at most m
pub count_bounded : (n m : ℕ) (f : ℕ → Bool) → ((k : ℕ) → k < n → f k ≡ true → k < m) → count n f ≤ m
unfolding count
count_bounded zero m f below = omega arith
count_bounded (suc n) m f below = side (f n) refl (count_bounded n m f (λ k h. below k (omega arith)))
  where
    side : (b : Bool) → f n ≡ b → count n f ≤ m → count n f + cond b 1 0 ≤ m
    side true e rest = let l = below n (omega arith) e in let most = count_le n f in omega arith
    side false e rest = omega arith

-- one that passes is counted
pub count_some : (n k : ℕ) (f : ℕ → Bool) → k < n → f k ≡ true → 0 < count n f
count_some n k f h e =
    let more : count (k + 1) f ≡ count k f + 1 = rw (count_more k f, e) in
    let grows = count_grows (k + 1) n f (omega arith) in
    omega arith

-- where none is counted, none passes
pub none_counted : (n : ℕ) (f : ℕ → Bool) → count n f ≡ 0 → (k : ℕ) → k < n → f k ≡ false
none_counted n f none k h = side (f k) refl
  where
    side : (b : Bool) → f k ≡ b → b ≡ false
    side true e = let some = count_some n k f h e in absurd (let z : ⊥ = omega arith in z)
    side false e = refl

-- tests that agree but at t, where the first fails
pub count_point : (n t : ℕ) (f g : ℕ → Bool) → t < n → f t ≡ false → ((k : ℕ) → k < n → (k ≡ t → ⊥) → f k ≡ g k) → count n g ≡ count n f + cond (g t) 1 0
unfolding count
count_point zero t f g h none same = absurd (let z : ⊥ = omega arith in z)
count_point (suc n) t f g h none same = side (eqb n t) refl (λ l. count_point n t f g l none (λ k m d. same k (omega arith) d))
  where
    side : (b : Bool) → eqb n t ≡ b → (t < n → count n g ≡ count n f + cond (g t) 1 0)
        → count n g + cond (g n) 1 0 ≡ count n f + cond (f n) 1 0 + cond (g t) 1 0
    side true e below =
        let is : n ≡ t = eqb-true _ _ e in
        let rest : count n g ≡ count n f = sym (count_same n f g (λ k l. same k (omega arith) (λ d. let z : ⊥ = omega arith in z))) in
        let here : one (f n) ≡ 0 = ap one (ap f is ∙ none) in
        let there : one (g n) ≡ one (g t) = ap one (ap g is) in
        omega arith
    side false e below =
        let ne = eqb-false n t e in
        let rest = below (omega (arith, ne)) in
        let here : one (f n) ≡ one (g n) = ap one (same n (omega arith) ne) in
        omega arith
