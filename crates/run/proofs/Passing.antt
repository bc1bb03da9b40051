-- A pass over places that takes no early way out: it keeps whether all so far passed. One proof over the test.
-- Assumes nothing.
use mathlib.Core.Path.{◌≡◌, refl, sym, ◌∙◌}
use mathlib.Core.Bool.{Bool, true, false, not, ◌&&◌}
use Prim.Native.Nat.{ℕ, ◌+◌, ◌≤◌, ◌<◌}
use native.Mathlib.Omega.{arith}
use borrow.Author.Count.{below_more}
use borrow.Author.Tests.{le-leb, lt-leb, leb-true, leb-false, not-false}
use lib.Dec.{leb}
use Rattle.run.specs.First.{first_bad, all, Every}
use Rattle.run.proofs.First.{first_is, first_below, first_fails, first_none, none_first}

pub all_every : (n : ℕ) (ok : ℕ → Bool) → all n ok ≡ true → Every ok n
all_every n ok e = none_first ok n (leb-true n _ e)

pub every_all : (n : ℕ) (ok : ℕ → Bool) → Every ok n → all n ok ≡ true
every_all n ok every = let e = first_none ok n every in le-leb n (first_bad ok n) (omega arith)

module _ (ok : ℕ → Bool) (k : ℕ) where
  -- a place that failed is not made good by the next
  stays : all k ok ≡ false → all (k + 1) ok ≡ false
  stays e =
      let h : first_bad ok k < k = leb-false _ _ e in
      let is = first_is ok (k + 1) (first_bad ok k) (omega arith) (first_below ok k) (λ _. first_fails ok k h) in
      lt-leb (k + 1) (first_bad ok (k + 1)) (omega arith)

  one_good : ok k ≡ true → all (k + 1) ok ≡ all k ok
  one_good good = side (all k ok) refl
    where
      side : (b : Bool) → all k ok ≡ b → all (k + 1) ok ≡ b
      side true e = every_all (k + 1) ok (below_more (λ (j : ℕ). ok j ≡ true) k (all_every k ok e) good)
      side false e = stays e

  one_bad : ok k ≡ false → all (k + 1) ok ≡ false
  one_bad bad = side (all k ok) refl
    where
      side : (b : Bool) → all k ok ≡ b → all (k + 1) ok ≡ false
      side true e =
          let is = first_is ok (k + 1) k (omega arith) (all_every k ok e) (λ _. bad) in
          lt-leb (k + 1) (first_bad ok (k + 1)) (omega arith)
      side false e = stays e

pub record Passing (ok : ℕ → Bool) (n k : ℕ) (good : Bool) : Type 0 where
  pub within : k ≤ n
  pub so_far : good ≡ all k ok

module _ {ok : ℕ → Bool} {n : ℕ} where
  pub pass_start : Passing ok n 0 true
  pass_start = record { within = omega arith; so_far = sym (le-leb 0 (first_bad ok 0) (omega arith)) }

  pub pass_good : {k : ℕ} {good : Bool} → Passing ok n k good → k < n → ok k ≡ true → Passing ok n (k + 1) good
  pass_good {k} inv h e = record { within = omega arith; so_far = inv.so_far ∙ sym (one_good ok k e) }

  pub pass_bad : {k : ℕ} {good : Bool} → Passing ok n k good → k < n → ok k ≡ false → Passing ok n (k + 1) false
  pass_bad {k} inv h e = record { within = omega arith; so_far = sym (one_bad ok k e) }

  pub pass_end : {k : ℕ} {good : Bool} → Passing ok n k good → n ≤ k → good ≡ all n ok
  pass_end {k} inv h = let w = inv.within in let e : k ≡ n = omega arith in inv.so_far ∙ rw e

-- a caller that asked whether one did not pass, and was told no
pub passed : (ok : ℕ → Bool) {n : ℕ} {good : Bool} → good ≡ all n ok → (not good ≡ false) → Every ok n
passed ok {n} {good} e h = all_every n ok (sym e ∙ not-false good h)

-- of m places the first n were asked, which are all of them
pub front_all : (m n : ℕ) (ok : ℕ → Bool) {good : Bool} → m ≡ n → good ≡ (leb n m && all n ok) → good ≡ all m ok
front_all m n ok e told = told ∙ rw (e, le-leb n n (omega arith))

pub front_every : (m n : ℕ) (ok : ℕ → Bool) {good : Bool} → m ≡ n → good ≡ (leb n m && all n ok) → good ≡ true → Every ok m
front_every m n ok e told good = all_every m ok (sym (front_all m n ok e told) ∙ good)
