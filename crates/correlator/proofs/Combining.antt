-- The components of T: where they stand, how large they are, and how a loop writes the sums of neighbours, two symbols at a time.
-- Assumes nothing.
use mathlib.Core.Path.{◌≡◌, sym, ap, ap₂, ◌∙◌}
use mathlib.Core.Bool.{Bool, true, false, cond}
use mathlib.Core.List.{List}
use Prim.Native.Nat.{ℕ, ◌+◌, ◌*◌, ◌/◌, ◌%◌, ◌<◌}
use native.Mathlib.Omega.{arith}
use lib.Dec.{eqb}
use lib.ListN.{length, set}
use lib.IntN.{ℤ, pos, ◌+ℤ◌}
use Rattle.run.proofs.Front.{Front, front_length, front_store}
use Rattle.run.proofs.Table.{tab_length, tab_at}
use Rattle.whole.specs.Bound.{Bounded}
use Rattle.signature.specs.Folding.{folds}
use Rattle.signature.proofs.Folding.{entry}
use Rattle.correlator.specs.declared.Complex.{Complex}
use Rattle.correlator.specs.Rule.{symbol, t1, t2, part_of, combined_at, combined, number_of, numbers_of}
use Rattle.correlator.specs.Method.{Small, Parts, pair_sums, depth}
use Rattle.correlator.proofs.Pairs.{pair_at, correlated}
use Rattle.correlator.proofs.Sizes.{small_conj, small_times, small_plus, small_minus}

pub combined_length : (h1 h2 : Complex) (r : List ℤ) → length (combined h1 h2 r) ≡ 32
unfolding combined
combined_length h1 h2 r = tab_length 32 (combined_at h1 h2 r)

pub combined_at_lem : (h1 h2 : Complex) (r : List ℤ) (j : ℕ) → j < 32 → entry (combined h1 h2 r) j ≡ combined_at h1 h2 r j
unfolding combined
combined_at_lem h1 h2 r j h = tab_at 32 (combined_at h1 h2 r) j (pos 0) h

-- the four components of pair m
module _ (h1 h2 : Complex) (r : List ℤ) (m : ℕ) where
  abbrev pub first : Complex
  first = t1 h1 h2 (symbol r (2 * m)) (symbol r (2 * m + 1))

  abbrev pub second : Complex
  second = t2 h1 h2 (symbol r (2 * m)) (symbol r (2 * m + 1))

  part_at : (j i : ℕ) → j / 4 ≡ m → j % 4 ≡ i → combined_at h1 h2 r j ≡ part_of first second i
  unfolding combined_at
  part_at j i e f = rw (e, f)

  pub part_0 : combined_at h1 h2 r (4 * m) ≡ first.re
  unfolding part_of
  part_0 = part_at (4 * m) 0 (omega arith) (omega arith)

  pub part_1 : combined_at h1 h2 r (4 * m + 1) ≡ first.im
  unfolding part_of
  part_1 = part_at (4 * m + 1) 1 (omega arith) (omega arith)

  pub part_2 : combined_at h1 h2 r (4 * m + 2) ≡ second.re
  unfolding part_of
  part_2 = part_at (4 * m + 2) 2 (omega arith) (omega arith)

  pub part_3 : combined_at h1 h2 r (4 * m + 3) ≡ second.im
  unfolding part_of
  part_3 = part_at (4 * m + 3) 3 (omega arith) (omega arith)

  -- the sums of neighbours, both stored: the front is two entries longer
  module _ (h : m < 8) where
    first_sum : entry (pair_sums (combined h1 h2 r)) (2 * m) ≡ first.re +ℤ first.im
    first_sum =
        pair_at (combined h1 h2 r) (2 * m) (4 * m) (omega arith) (omega arith)
        ∙ ap₂ (λ (y z : ℤ). y +ℤ z) (combined_at_lem h1 h2 r (4 * m) (omega arith) ∙ part_0) (combined_at_lem h1 h2 r (4 * m + 1) (omega arith) ∙ part_1)

    second_sum : entry (pair_sums (combined h1 h2 r)) (2 * m + 1) ≡ second.re +ℤ second.im
    second_sum =
        let odd : 4 * m + 2 + 1 ≡ 4 * m + 3 = omega arith in
        pair_at (combined h1 h2 r) (2 * m + 1) (4 * m + 2) (omega arith) (omega arith)
        ∙ ap₂ (λ (y z : ℤ). y +ℤ z) (combined_at_lem h1 h2 r (4 * m + 2) (omega arith) ∙ part_2)
        (ap (entry (combined h1 h2 r)) odd ∙ combined_at_lem h1 h2 r (4 * m + 3) (omega arith) ∙ part_3)

    pub turn_front : (d₀ d : List ℤ) (a b : ℤ) → a ≡ first.re +ℤ first.im → b ≡ second.re +ℤ second.im → length d₀ ≡ 16
        → Front (pair_sums (combined h1 h2 r)) d₀ d (2 * m)
        → Front (pair_sums (combined h1 h2 r)) d₀ (set (set d (2 * m) a) (2 * m + 1) b) (2 * (m + 1))
    turn_front d₀ d a b pa pb n f =
        let l = front_length f in
        let one = front_store (pos 0) f (omega arith) (pa ∙ sym first_sum) in
        let k = front_length one in
        let next : 2 * m + 1 + 1 ≡ 2 * (m + 1) = omega arith in
        rw (← next) (front_store (pos 0) one (omega arith) (pb ∙ sym second_sum))

-- what a symbol of parts in range is, and what T makes of two of them
pub symbol_small : {B : ℕ} {r : List ℤ} → Parts B r → (k : ℕ) → k < 16 → Small B (symbol r k)
symbol_small p k h = record { re_in = p.small (2 * k) (omega arith); im_in = p.small (2 * k + 1) (omega arith) }

module _ {h1 h2 r1 r2 : Complex} (p : Small 32768 h1) (q : Small 32768 h2) (a : Small 2147483648 r1) (b : Small 2147483648 r2) where
  pub first_small : Small 281474976710656 (t1 h1 h2 r1 r2)
  first_small = small_plus (small_times (small_conj p) a) (small_times q (small_conj b))

  pub second_small : Small 281474976710656 (t2 h1 h2 r1 r2)
  second_small = small_minus (small_times (small_conj p) b) (small_times q (small_conj a))

part_small : (B : ℕ) (x y : Complex) (i : ℕ) → Small B x → Small B y → Bounded B (part_of x y i)
unfolding part_of
part_small B x y i p q = pick (eqb i 0) (eqb i 1) (eqb i 2)
  where
    pick : (a b c : Bool) → Bounded B (cond a x.re (cond b x.im (cond c y.re y.im)))
    pick true b c = p.re_in
    pick false true c = p.im_in
    pick false false true = q.re_in
    pick false false false = q.im_in

pub combined_small : (h1 h2 : Complex) (r : List ℤ) → Small 32768 h1 → Small 32768 h2 → Parts 2147483648 r → Parts 281474976710656 (combined h1 h2 r)
unfolding combined_at
combined_small h1 h2 r p q parts =
    record {
      long = combined_length h1 h2 r;
      small = λ j h.
          let a = symbol_small parts (2 * (j / 4)) (omega arith) in
          let b = symbol_small parts (2 * (j / 4) + 1) (omega arith) in
          rw (combined_at_lem h1 h2 r j h) (part_small 281474976710656 _ _ (j % 4) (first_small p q a b) (second_small p q a b));
    }

-- the numbers are the correlations of T, which is what folding leaves of the sums of neighbours
pub numbers_are : (h1 h2 : Complex) (r : List ℤ) → folds (depth (pair_sums (combined h1 h2 r))) (pair_sums (combined h1 h2 r)) ≡ numbers_of h1 h2 r
unfolding numbers_of number_of
numbers_are h1 h2 r = correlated (combined h1 h2 r)

pub numbers_length : (h1 h2 : Complex) (r : List ℤ) → length (numbers_of h1 h2 r) ≡ 16
unfolding numbers_of
numbers_length h1 h2 r = tab_length 16 _
