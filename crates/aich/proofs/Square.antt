-- Two foldings at a time, with their places turned: one turn of the loop that makes a column of the square, and one of the loop that makes eight values of a row.
-- Assumes nothing.
use mathlib.Core.Path.{◌≡◌, refl, ap, ◌∙◌}
use mathlib.Core.Bool.{Bool, true, false}
use mathlib.Core.List.{List}
use Prim.Native.Nat.{ℕ, zero, suc, ◌+◌, ◌*◌, ◌/◌, ◌<◌}
use native.Mathlib.Nat.{not-suc-le-zero}
use native.Mathlib.Omega.{arith}
use borrow.Author.Tests.{ltb-true, ltb-false}
use lib.Dec.{ltb, lit<, lit≤}
use lib.ListN.{length, set, length-set}
use lib.Seq.{get_or-set_same, get_or-set_other}
use lib.IntN.{ℤ, pos, ◌+ℤ◌, ◌-ℤ◌}
use Rattle.run.proofs.Front.{Front, front_length, front_store}
use Rattle.whole.specs.Bound.{Bounded}
use Rattle.aich.specs.Rule.{values_of}
use Rattle.aich.specs.Method.{Sixteen, folded, Turned, half_of}
use Rattle.aich.proofs.Laws.{entry, value_from_half}
use Rattle.aich.proofs.Folded.{Small}
use Rattle.aich.proofs.Folding.{folded_small, four_folds, sixteen_weaken, first_of_four, second_of_four, third_of_four, fourth_of_four}

-- ---- a column is stored

module _ (y : List ℤ) (k : ℕ) (v₀ v₁ v₂ v₃ : ℤ) (long : length y ≡ 16) (h : k < 4) where
  abbrev s₀ : List ℤ
  s₀ = set y k v₀

  abbrev s₁ : List ℤ
  s₁ = set s₀ (k + 4) v₁

  abbrev s₂ : List ℤ
  s₂ = set s₁ (k + 8) v₂

  abbrev s₃ : List ℤ
  s₃ = set s₂ (k + 12) v₃

  long₀ : length s₀ ≡ 16
  long₀ = length-set y k v₀ ∙ long

  long₁ : length s₁ ≡ 16
  long₁ = length-set s₀ (k + 4) v₁ ∙ long₀

  long₂ : length s₂ ≡ 16
  long₂ = length-set s₁ (k + 8) v₂ ∙ long₁

  long₃ : length s₃ ≡ 16
  long₃ = length-set s₂ (k + 12) v₃ ∙ long₂

  at₀ : entry s₃ k ≡ v₀
  at₀ =
      get_or-set_other s₂ (k + 12) k v₃ (pos 0) (λ e. omega (arith, e))
      ∙ get_or-set_other s₁ (k + 8) k v₂ (pos 0) (λ e. omega (arith, e))
      ∙ get_or-set_other s₀ (k + 4) k v₁ (pos 0) (λ e. omega (arith, e))
      ∙ get_or-set_same y k v₀ (pos 0) (omega (arith, long))

  at₁ : entry s₃ (k + 4) ≡ v₁
  at₁ =
      get_or-set_other s₂ (k + 12) (k + 4) v₃ (pos 0) (λ e. omega (arith, e))
      ∙ get_or-set_other s₁ (k + 8) (k + 4) v₂ (pos 0) (λ e. omega (arith, e))
      ∙ get_or-set_same s₀ (k + 4) v₁ (pos 0) (omega (arith, long₀))

  at₂ : entry s₃ (k + 8) ≡ v₂
  at₂ =
      get_or-set_other s₂ (k + 12) (k + 8) v₃ (pos 0) (λ e. omega (arith, e))
      ∙ get_or-set_same s₁ (k + 8) v₂ (pos 0) (omega (arith, long₁))

  at₃ : entry s₃ (k + 12) ≡ v₃
  at₃ = get_or-set_same s₂ (k + 12) v₃ (pos 0) (omega (arith, long₂))

  -- an earlier column stays
  earlier : (j t : ℕ) → j < k → entry s₃ (j + 4 * t) ≡ entry y (j + 4 * t)
  earlier j t l =
      get_or-set_other s₂ (k + 12) (j + 4 * t) v₃ (pos 0) (λ e. omega (arith, e))
      ∙ get_or-set_other s₁ (k + 8) (j + 4 * t) v₂ (pos 0) (λ e. omega (arith, e))
      ∙ get_or-set_other s₀ (k + 4) (j + 4 * t) v₁ (pos 0) (λ e. omega (arith, e))
      ∙ get_or-set_other y k (j + 4 * t) v₀ (pos 0) (λ e. omega (arith, e))

  module _ (z : List ℤ) (e₀ : v₀ ≡ entry z (4 * k)) (e₁ : v₁ ≡ entry z (4 * k + 1)) (e₂ : v₂ ≡ entry z (4 * k + 2)) (e₃ : v₃ ≡ entry z (4 * k + 3)) where
    this : (t : ℕ) → t < 4 → entry s₃ (k + 4 * t) ≡ entry z (4 * k + t)
    this zero l = let i : k + 4 * 0 ≡ k = omega arith in let j : 4 * k + 0 ≡ 4 * k = omega arith in rw (i, j) (at₀ ∙ e₀)
    this (suc zero) l = at₁ ∙ e₁
    this (suc (suc zero)) l = at₂ ∙ e₂
    this (suc (suc (suc zero))) l = at₃ ∙ e₃
    this (suc (suc (suc (suc t)))) l = absurd (let n : ⊥ = omega arith in n)

pub turned_none : (x y : List ℤ) → length y ≡ 16 → Turned 0 x y
turned_none x y e = record { long = e; at = λ k t h. absurd (not-suc-le-zero h) }

module _ (x y : List ℤ) (k : ℕ) (v₀ v₁ v₂ v₃ : ℤ) (h : k < 4) (f : Turned k x y) where
  pub turned_next : v₀ ≡ entry (folded (folded x)) (4 * k) → v₁ ≡ entry (folded (folded x)) (4 * k + 1)
      → v₂ ≡ entry (folded (folded x)) (4 * k + 2) → v₃ ≡ entry (folded (folded x)) (4 * k + 3)
      → Turned (k + 1) x (set (set (set (set y k v₀) (k + 4) v₁) (k + 8) v₂) (k + 12) v₃)
  turned_next e₀ e₁ e₂ e₃ =
      record {
        long = long₃ y k v₀ v₁ v₂ v₃ f.long h;
        at = λ j t l m. side j t l m (ltb j k) refl;
      }
    where
      side : (j t : ℕ) → j < k + 1 → t < 4 → (b : Bool) → ltb j k ≡ b
          → entry (set (set (set (set y k v₀) (k + 4) v₁) (k + 8) v₂) (k + 12) v₃) (j + 4 * t) ≡ entry (folded (folded x)) (4 * j + t)
      side j t l m true e = earlier y k v₀ v₁ v₂ v₃ f.long h j t (ltb-true j k e) ∙ f.at j t (ltb-true j k e) m
      side j t l m false e =
          let is : j ≡ k = omega (arith, ltb-false j k e) in
          rw is (this y k v₀ v₁ v₂ v₃ f.long h (folded (folded x)) e₀ e₁ e₂ e₃ t m)

-- the four numbers of a column
pub column_small : (x : List ℤ) (k : ℕ) → Sixteen 16 x → k < 4 → Small (entry x k) (entry x (k + 4)) (entry x (k + 8)) (entry x (k + 12))
column_small x k p h =
    let q = sixteen_weaken (lit≤ tt) p in
    (q.small k (omega arith), q.small (k + 4) (omega arith), q.small (k + 8) (omega arith), q.small (k + 12) (omega arith))

-- ---- a row, which is a column of what two foldings give

module _ (x y : List ℤ) (p : Sixteen 16 x) (f : Turned 4 x y) (k : ℕ) (h : k < 4) where
  abbrev z : List ℤ
  z = folded (folded x)

  small : (i : ℕ) → i < 16 → Bounded 64 (entry z i)
  small i l = (folded_small (folded_small p)).small i l

  in_row : (i : ℕ) → i < 4 → entry y (4 * k + i) ≡ entry z (4 * i + k)
  in_row i l = let is : i + 4 * k ≡ 4 * k + i = omega arith in rw is at (f.at i k l h)

  row₀ : entry y (4 * k) ≡ entry z k
  row₀ = let a : 4 * k + 0 ≡ 4 * k = omega arith in let b : 4 * 0 + k ≡ k = omega arith in rw (a, b) at (in_row 0 (lit< tt))

  row₁ : entry y (4 * k + 1) ≡ entry z (k + 4)
  row₁ = let b : 4 * 1 + k ≡ k + 4 = omega arith in rw b at (in_row 1 (lit< tt))

  row₂ : entry y (4 * k + 2) ≡ entry z (k + 8)
  row₂ = let b : 4 * 2 + k ≡ k + 8 = omega arith in rw b at (in_row 2 (lit< tt))

  row₃ : entry y (4 * k + 3) ≡ entry z (k + 12)
  row₃ = let b : 4 * 3 + k ≡ k + 12 = omega arith in rw b at (in_row 3 (lit< tt))

  pub row_small : Small (entry y (4 * k)) (entry y (4 * k + 1)) (entry y (4 * k + 2)) (entry y (4 * k + 3))
  row_small = (rw row₀ (small k (omega arith)), rw row₁ (small (k + 4) (omega arith)), rw row₂ (small (k + 8) (omega arith)), rw row₃ (small (k + 12) (omega arith)))

  -- sum i of all signatures is the value of places 2i and 2i + 1
  value : (i j : ℕ) → j / 2 ≡ i → j < 32 → entry (folded (folded z)) i ≡ entry (values_of x) j
  value i j e l = ap (λ (s : List ℤ). entry s i) (four_folds x) ∙ rw e at (value_from_half x j l)

  pub first_value : (j : ℕ) → j / 2 ≡ 4 * k → j < 32
      → entry y (4 * k) +ℤ entry y (4 * k + 1) +ℤ (entry y (4 * k + 2) +ℤ entry y (4 * k + 3)) ≡ entry (values_of x) j
  first_value j e l = rw (row₀, row₁, row₂, row₃) (first_of_four z k h) ∙ value (4 * k) j e l

  pub second_value : (j : ℕ) → j / 2 ≡ 4 * k + 1 → j < 32
      → entry y (4 * k) -ℤ entry y (4 * k + 1) +ℤ (entry y (4 * k + 2) -ℤ entry y (4 * k + 3)) ≡ entry (values_of x) j
  second_value j e l = rw (row₀, row₁, row₂, row₃) (second_of_four z k h) ∙ value (4 * k + 1) j e l

  pub third_value : (j : ℕ) → j / 2 ≡ 4 * k + 2 → j < 32
      → entry y (4 * k) +ℤ entry y (4 * k + 1) -ℤ (entry y (4 * k + 2) +ℤ entry y (4 * k + 3)) ≡ entry (values_of x) j
  third_value j e l = rw (row₀, row₁, row₂, row₃) (third_of_four z k h) ∙ value (4 * k + 2) j e l

  pub fourth_value : (j : ℕ) → j / 2 ≡ 4 * k + 3 → j < 32
      → entry y (4 * k) -ℤ entry y (4 * k + 1) -ℤ (entry y (4 * k + 2) -ℤ entry y (4 * k + 3)) ≡ entry (values_of x) j
  fourth_value j e l = rw (row₀, row₁, row₂, row₃) (fourth_of_four z k h) ∙ value (4 * k + 3) j e l

  -- .. and sum i by itself
  sum_is : (i : ℕ) → entry (folded (folded z)) i ≡ entry (half_of x) i
  sum_is i = ap (λ (s : List ℤ). entry s i) (four_folds x)

  pub first_sum : entry y (4 * k) +ℤ entry y (4 * k + 1) +ℤ (entry y (4 * k + 2) +ℤ entry y (4 * k + 3)) ≡ entry (half_of x) (4 * k)
  first_sum = rw (row₀, row₁, row₂, row₃) (first_of_four z k h) ∙ sum_is (4 * k)

  pub second_sum : entry y (4 * k) -ℤ entry y (4 * k + 1) +ℤ (entry y (4 * k + 2) -ℤ entry y (4 * k + 3)) ≡ entry (half_of x) (4 * k + 1)
  second_sum = rw (row₀, row₁, row₂, row₃) (second_of_four z k h) ∙ sum_is (4 * k + 1)

  pub third_sum : entry y (4 * k) +ℤ entry y (4 * k + 1) -ℤ (entry y (4 * k + 2) +ℤ entry y (4 * k + 3)) ≡ entry (half_of x) (4 * k + 2)
  third_sum = rw (row₀, row₁, row₂, row₃) (third_of_four z k h) ∙ sum_is (4 * k + 2)

  pub fourth_sum : entry y (4 * k) -ℤ entry y (4 * k + 1) -ℤ (entry y (4 * k + 2) -ℤ entry y (4 * k + 3)) ≡ entry (half_of x) (4 * k + 3)
  fourth_sum = rw (row₀, row₁, row₂, row₃) (fourth_of_four z k h) ∙ sum_is (4 * k + 3)

-- four sums are stored: the front is four entries longer
module _ {t d₀ d : List ℤ} (k : ℕ) (v₀ v₁ v₂ v₃ : ℤ) (long : length d₀ ≡ 16) (h : k < 4) (f₀ : Front t d₀ d (4 * k)) where
  pub four_next : v₀ ≡ entry t (4 * k) → v₁ ≡ entry t (4 * k + 1) → v₂ ≡ entry t (4 * k + 2) → v₃ ≡ entry t (4 * k + 3)
      → Front t d₀ (set (set (set (set d (4 * k) v₀) (4 * k + 1) v₁) (4 * k + 2) v₂) (4 * k + 3) v₃) (4 * (k + 1))
  four_next e₀ e₁ e₂ e₃ =
      let f₁ = kept f₀ (omega arith) e₀ in
      let f₂ = kept f₁ (omega arith) e₁ in
      let i₂ : 4 * k + 1 + 1 ≡ 4 * k + 2 = omega arith in
      let f₃ = kept (rw i₂ at f₂) (omega arith) e₂ in
      let i₃ : 4 * k + 2 + 1 ≡ 4 * k + 3 = omega arith in
      let f₄ = kept (rw i₃ at f₃) (omega arith) e₃ in
      let i₄ : 4 * k + 3 + 1 ≡ 4 * (k + 1) = omega arith in
      rw i₄ at f₄
    where
      kept : {d : List ℤ} {i : ℕ} {v : ℤ} → Front t d₀ d i → i < 16 → v ≡ entry t i → Front t d₀ (set d i v) (i + 1)
      kept g l e = front_store (pos 0) g (omega (arith, front_length g, long)) e

-- eight values are stored: the front is eight entries longer
module _ {t d₀ d : List ℤ} (k : ℕ) (v₀ v₁ v₂ v₃ : ℤ) (long : length d₀ ≡ 32) (h : k < 4) (f₀ : Front t d₀ d (8 * k)) where
  pub eight_next : v₀ ≡ entry t (8 * k) → v₀ ≡ entry t (8 * k + 1) → v₁ ≡ entry t (8 * k + 2) → v₁ ≡ entry t (8 * k + 3)
      → v₂ ≡ entry t (8 * k + 4) → v₂ ≡ entry t (8 * k + 5) → v₃ ≡ entry t (8 * k + 6) → v₃ ≡ entry t (8 * k + 7)
      → Front t d₀
      (set (set (set (set (set (set (set (set d (8 * k) v₀) (8 * k + 1) v₀) (8 * k + 2) v₁) (8 * k + 3) v₁) (8 * k + 4) v₂) (8 * k + 5) v₂) (8 * k + 6) v₃) (8 * k + 7) v₃)
      (8 * (k + 1))
  eight_next e₀ e₁ e₂ e₃ e₄ e₅ e₆ e₇ =
      let f₁ = stored f₀ (omega arith) e₀ in
      let f₂ = stored f₁ (omega arith) e₁ in
      let i₂ : 8 * k + 1 + 1 ≡ 8 * k + 2 = omega arith in
      let f₃ = stored (rw i₂ at f₂) (omega arith) e₂ in
      let i₃ : 8 * k + 2 + 1 ≡ 8 * k + 3 = omega arith in
      let f₄ = stored (rw i₃ at f₃) (omega arith) e₃ in
      let i₄ : 8 * k + 3 + 1 ≡ 8 * k + 4 = omega arith in
      let f₅ = stored (rw i₄ at f₄) (omega arith) e₄ in
      let i₅ : 8 * k + 4 + 1 ≡ 8 * k + 5 = omega arith in
      let f₆ = stored (rw i₅ at f₅) (omega arith) e₅ in
      let i₆ : 8 * k + 5 + 1 ≡ 8 * k + 6 = omega arith in
      let f₇ = stored (rw i₆ at f₆) (omega arith) e₆ in
      let i₇ : 8 * k + 6 + 1 ≡ 8 * k + 7 = omega arith in
      let f₈ = stored (rw i₇ at f₇) (omega arith) e₇ in
      let i₈ : 8 * k + 7 + 1 ≡ 8 * (k + 1) = omega arith in
      rw i₈ at f₈
    where
      stored : {d : List ℤ} {i : ℕ} {v : ℤ} → Front t d₀ d i → i < 32 → v ≡ entry t i → Front t d₀ (set d i v) (i + 1)
      stored g l e = front_store (pos 0) g (omega (arith, front_length g, long)) e
