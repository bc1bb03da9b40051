-- What arrives of the AICH sent from two antennas, and what T and the numbers make of it.
-- Assumes nothing.
use mathlib.Core.Path.{◌≡◌, sym, ap, ap₂, ◌∙◌}
use mathlib.Core.Bool.{Bool, true, false, cond}
use mathlib.Core.List.{List, [], ◌∷◌}
use Prim.Native.Nat.{ℕ, ◌+◌, ◌*◌, ◌/◌, ◌%◌, ◌<◌}
use native.Mathlib.Omega.{arith}
use lib.Dec.{eqb, lit≤}
use lib.ListN.{length}
use lib.IntN.{ℤ, pos, neg_ℤ, ◌+ℤ◌, ◌*ℤ◌, neg_ℤ-neg_ℤ}
use Rattle.run.proofs.Table.{tab_length, tab_at}
use Rattle.whole.specs.Bound.{Bounded}
use Rattle.whole.proofs.Bound.{b_neg, b_weaken}
use Rattle.whole.proofs.Laws.{*ℤ-assoc, distrib_r}
use Rattle.whole.proofs.Ring.{solve, quoted, quote_pos, ring}
use Rattle.whole.proofs.Sum.{sum_same, sum_plus, times_sum}
use Rattle.signature.specs.Rule.{sign}
use Rattle.aich.specs.Rule.{values_of, correlation}
use Rattle.aich.specs.Method.{Sixteen}
use Rattle.aich.specs.Rule.{value_at}
use Rattle.aich.proofs.Laws.{entry, values_length, value_at_lem, value_small, pairs_correlate, given_alike, given_sum}
use Rattle.sttd.specs.Rule.{sttd}
use Rattle.sttd.specs.Exact.{Block}
use Rattle.sttd.proofs.Laws.{block, sttd_keeps}
use Rattle.correlator.specs.declared.Complex.{Complex}
use Rattle.correlator.specs.Complexes.{cx, ◌⊞◌, ◌⊠◌, conj, opposite, power}
use Rattle.correlator.specs.Rule.{symbol, t1, t2, combined_at, combined, number_of}
use Rattle.correlator.specs.Method.{Small, Parts}
use Rattle.correlator.proofs.Sizes.{small_times, small_plus}
use Rattle.correlator.proofs.Combining.{combined_at_lem, first, second, part_0, part_1, part_2, part_3}
use Rattle.correlator.proofs.Algebra.{pair_clean, pair_plus}
use Rattle.combiner.specs.Demand3.{antenna2, SecondAntenna, arriving, clean, noisy, own}
use Rattle.combiner.proofs.Fours.{by_fours}

-- ---- antenna 2
pub sent_second : SecondAntenna
sent_second indicators m h =
    let n = values_length indicators in
    let b : Block neg_ℤ (values_of indicators) (pos 0) (4 * m) = block neg_ℤ (values_of indicators) (pos 0) m (omega arith) in
    let e0 : 2 * (2 * m) ≡ 4 * m = omega arith in
    let e1 : 2 * (2 * m) + 1 ≡ 4 * m + 1 = omega arith in
    let e2 : 2 * (2 * m + 1) ≡ 4 * m + 2 = omega arith in
    let e3 : 2 * (2 * m + 1) + 1 ≡ 4 * m + 3 = omega arith in
    let v = values_of indicators in
    let w = sttd neg_ℤ (values_of indicators) in
    record {
      first = λ i.
          cx ((ap (entry w) e0 ∙ b.first ∙ ap (λ (k : ℕ). neg_ℤ (entry v k)) (sym e2)) i)
          ((ap (entry w) e1 ∙ b.second ∙ ap (entry v) (sym e3) ∙ sym (neg_ℤ-neg_ℤ (entry v (2 * (2 * m + 1) + 1)))) i);
      second = λ i.
          cx ((ap (entry w) e2 ∙ b.third ∙ ap (entry v) (sym e0)) i)
          ((ap (entry w) e3 ∙ b.fourth ∙ ap (λ (k : ℕ). neg_ℤ (entry v k)) (sym e1)) i);
    }

-- ---- the parts that arrive
module _ (h1 h2 : Complex) (indicators : List ℤ) where
  pub clean_length : length (clean h1 h2 indicators) ≡ 32
  unfolding clean
  clean_length = tab_length 32 _

  part : ℕ → ℤ
  part j = cond (eqb (j % 2) 0) (arriving h1 h2 indicators (j / 2)).re (arriving h1 h2 indicators (j / 2)).im

  clean_at : (j : ℕ) → j < 32 → entry (clean h1 h2 indicators) j ≡ part j
  unfolding clean part
  clean_at j h = tab_at 32 part j (pos 0) h

  clean_symbol : (k : ℕ) → k < 16 → symbol (clean h1 h2 indicators) k ≡ arriving h1 h2 indicators k
  unfolding part
  clean_symbol k h =
      let q : 2 * k / 2 ≡ k = omega arith in
      let r : 2 * k % 2 ≡ 0 = omega arith in
      let q1 : (2 * k + 1) / 2 ≡ k = omega arith in
      let r1 : (2 * k + 1) % 2 ≡ 1 = omega arith in
      let re-is : entry (clean h1 h2 indicators) (2 * k) ≡ (arriving h1 h2 indicators k).re = clean_at (2 * k) (omega arith) ∙ rw (r, q) in
      let im-is : entry (clean h1 h2 indicators) (2 * k + 1) ≡ (arriving h1 h2 indicators k).im = clean_at (2 * k + 1) (omega arith) ∙ rw (r1, q1) in
      λ i. cx (re-is i) (im-is i)

  -- ---- T of what arrives with no noise: the values of antenna 1 times the sum of the squared gains
  abbrev gain : ℤ
  gain = power h1 +ℤ power h2

  abbrev v : List ℤ
  v = values_of indicators

  module _ (m : ℕ) (h : m < 8) where
    abbrev s1 : Complex
    s1 = symbol v (2 * m)

    abbrev s2 : Complex
    s2 = symbol v (2 * m + 1)

    r1_is : symbol (clean h1 h2 indicators) (2 * m) ≡ h1 ⊠ s1 ⊞ h2 ⊠ opposite (conj s2)
    r1_is =
        clean_symbol (2 * m) (omega arith)
        ∙ ap (λ (z : Complex). h1 ⊠ s1 ⊞ h2 ⊠ z) (sent_second indicators m h).first

    r2_is : symbol (clean h1 h2 indicators) (2 * m + 1) ≡ h1 ⊠ s2 ⊞ h2 ⊠ conj s1
    r2_is =
        clean_symbol (2 * m + 1) (omega arith)
        ∙ ap (λ (z : Complex). h1 ⊠ s2 ⊞ h2 ⊠ z) (sent_second indicators m h).second

    first_is : first h1 h2 (clean h1 h2 indicators) m ≡ t1 h1 h2 (h1 ⊠ s1 ⊞ h2 ⊠ opposite (conj s2)) (h1 ⊠ s2 ⊞ h2 ⊠ conj s1)
    first_is = λ i. t1 h1 h2 (r1_is i) (r2_is i)

    second_is : second h1 h2 (clean h1 h2 indicators) m ≡ t2 h1 h2 (h1 ⊠ s1 ⊞ h2 ⊠ opposite (conj s2)) (h1 ⊠ s2 ⊞ h2 ⊠ conj s1)
    second_is = λ i. t2 h1 h2 (r1_is i) (r2_is i)

    scaled : (j k : ℕ) → k ≡ j → gain *ℤ entry v k ≡ gain *ℤ entry v j
    scaled j k e = ap (λ (n : ℕ). gain *ℤ entry v n) e

    clean_0 : combined_at h1 h2 (clean h1 h2 indicators) (4 * m) ≡ gain *ℤ entry v (4 * m)
    clean_0 =
        part_0 h1 h2 (clean h1 h2 indicators) m ∙ ap (λ (z : Complex). z.re) first_is ∙ (pair_clean h1 h2 s1 s2).0
        ∙ scaled (4 * m) (2 * (2 * m)) (omega arith)

    clean_1 : combined_at h1 h2 (clean h1 h2 indicators) (4 * m + 1) ≡ gain *ℤ entry v (4 * m + 1)
    clean_1 =
        part_1 h1 h2 (clean h1 h2 indicators) m ∙ ap (λ (z : Complex). z.im) first_is ∙ (pair_clean h1 h2 s1 s2).1
        ∙ scaled (4 * m + 1) (2 * (2 * m) + 1) (omega arith)

    clean_2 : combined_at h1 h2 (clean h1 h2 indicators) (4 * m + 2) ≡ gain *ℤ entry v (4 * m + 2)
    clean_2 =
        part_2 h1 h2 (clean h1 h2 indicators) m ∙ ap (λ (z : Complex). z.re) second_is ∙ (pair_clean h1 h2 s1 s2).2
        ∙ scaled (4 * m + 2) (2 * (2 * m + 1)) (omega arith)

    clean_3 : combined_at h1 h2 (clean h1 h2 indicators) (4 * m + 3) ≡ gain *ℤ entry v (4 * m + 3)
    clean_3 =
        part_3 h1 h2 (clean h1 h2 indicators) m ∙ ap (λ (z : Complex). z.im) second_is ∙ (pair_clean h1 h2 s1 s2).3
        ∙ scaled (4 * m + 3) (2 * (2 * m + 1) + 1) (omega arith)

  combined_clean : (j : ℕ) → j < 32 → combined_at h1 h2 (clean h1 h2 indicators) j ≡ gain *ℤ entry v j
  combined_clean =
      by_fours (λ (j : ℕ). combined_at h1 h2 (clean h1 h2 indicators) j ≡ gain *ℤ entry v j) clean_0 clean_1 clean_2 clean_3

  -- the correlation of antenna 1's values: 32 times the indicator
  own_correlation : (s : ℕ) → s < 16 → correlation v s ≡ entry indicators s *ℤ pos 16 +ℤ entry indicators s *ℤ pos 16
  own_correlation s h =
      let is : (j : ℕ) → j < 32 → value_at indicators j ≡ entry v j = (λ j l. sym (value_at_lem indicators j l)) in
      let half = given_sum indicators v is s h in
      pairs_correlate v (given_alike indicators v is) s ∙ ap₂ (λ a b. a +ℤ b) half half

  own_number : (g y : ℤ) → g *ℤ (y *ℤ pos 16 +ℤ y *ℤ pos 16) ≡ pos 32 *ℤ g *ℤ y
  own_number g y = ring (g ∷ y ∷ []) (λ ρ p q. simp (p, q, quoted, quote_pos ρ) (solve ρ _ _ tt))

  pub clean_number : (s : ℕ) → s < 16 → number_of h1 h2 (clean h1 h2 indicators) s ≡ own indicators h1 h2 s
  unfolding number_of correlation
  clean_number s h =
      sum_same 32 (λ j. entry (combined h1 h2 (clean h1 h2 indicators)) j *ℤ sign s j) (λ j. gain *ℤ (entry v j *ℤ sign s j))
      (λ j l. ap (λ (z : ℤ). z *ℤ sign s j) (combined_at_lem h1 h2 (clean h1 h2 indicators) j l ∙ combined_clean j l) ∙ *ℤ-assoc gain (entry v j) (sign s j))
      ∙ times_sum 32 (λ j. entry v j *ℤ sign s j) gain
      ∙ ap (λ (z : ℤ). gain *ℤ z) (own_correlation s h)
      ∙ own_number gain (entry indicators s)

  -- ---- T of a sum is the sum
  module _ (noise : List ℤ) where
    abbrev both : List ℤ
    both = noisy h1 h2 indicators noise

    noisy_at : (j : ℕ) → j < 32 → entry both j ≡ entry (clean h1 h2 indicators) j +ℤ entry noise j
    unfolding noisy
    noisy_at j h = tab_at 32 (λ (k : ℕ). entry (clean h1 h2 indicators) k +ℤ entry noise k) j (pos 0) h

    pub noisy_length : length both ≡ 32
    unfolding noisy
    noisy_length = tab_length 32 _

    noisy_symbol : (k : ℕ) → k < 16 → symbol both k ≡ symbol (clean h1 h2 indicators) k ⊞ symbol noise k
    noisy_symbol k h = λ i. cx (noisy_at (2 * k) (omega arith) i) (noisy_at (2 * k + 1) (omega arith) i)

    module _ (m : ℕ) (h : m < 8) where
      abbrev c1 : Complex
      c1 = symbol (clean h1 h2 indicators) (2 * m)

      abbrev c2 : Complex
      c2 = symbol (clean h1 h2 indicators) (2 * m + 1)

      abbrev n1 : Complex
      n1 = symbol noise (2 * m)

      abbrev n2 : Complex
      n2 = symbol noise (2 * m + 1)

      first_plus : first h1 h2 both m ≡ t1 h1 h2 (c1 ⊞ n1) (c2 ⊞ n2)
      first_plus = λ i. t1 h1 h2 (noisy_symbol (2 * m) (omega arith) i) (noisy_symbol (2 * m + 1) (omega arith) i)

      second_plus : second h1 h2 both m ≡ t2 h1 h2 (c1 ⊞ n1) (c2 ⊞ n2)
      second_plus = λ i. t2 h1 h2 (noisy_symbol (2 * m) (omega arith) i) (noisy_symbol (2 * m + 1) (omega arith) i)

      plus_0 : combined_at h1 h2 both (4 * m) ≡ combined_at h1 h2 (clean h1 h2 indicators) (4 * m) +ℤ combined_at h1 h2 noise (4 * m)
      plus_0 =
          part_0 h1 h2 both m ∙ ap (λ (z : Complex). z.re) first_plus ∙ (pair_plus h1 h2 c1 c2 n1 n2).0
          ∙ sym (ap₂ (λ a b. a +ℤ b) (part_0 h1 h2 (clean h1 h2 indicators) m) (part_0 h1 h2 noise m))

      plus_1 : combined_at h1 h2 both (4 * m + 1) ≡ combined_at h1 h2 (clean h1 h2 indicators) (4 * m + 1) +ℤ combined_at h1 h2 noise (4 * m + 1)
      plus_1 =
          part_1 h1 h2 both m ∙ ap (λ (z : Complex). z.im) first_plus ∙ (pair_plus h1 h2 c1 c2 n1 n2).1
          ∙ sym (ap₂ (λ a b. a +ℤ b) (part_1 h1 h2 (clean h1 h2 indicators) m) (part_1 h1 h2 noise m))

      plus_2 : combined_at h1 h2 both (4 * m + 2) ≡ combined_at h1 h2 (clean h1 h2 indicators) (4 * m + 2) +ℤ combined_at h1 h2 noise (4 * m + 2)
      plus_2 =
          part_2 h1 h2 both m ∙ ap (λ (z : Complex). z.re) second_plus ∙ (pair_plus h1 h2 c1 c2 n1 n2).2
          ∙ sym (ap₂ (λ a b. a +ℤ b) (part_2 h1 h2 (clean h1 h2 indicators) m) (part_2 h1 h2 noise m))

      plus_3 : combined_at h1 h2 both (4 * m + 3) ≡ combined_at h1 h2 (clean h1 h2 indicators) (4 * m + 3) +ℤ combined_at h1 h2 noise (4 * m + 3)
      plus_3 =
          part_3 h1 h2 both m ∙ ap (λ (z : Complex). z.im) second_plus ∙ (pair_plus h1 h2 c1 c2 n1 n2).3
          ∙ sym (ap₂ (λ a b. a +ℤ b) (part_3 h1 h2 (clean h1 h2 indicators) m) (part_3 h1 h2 noise m))

    combined_plus : (j : ℕ) → j < 32 → combined_at h1 h2 both j ≡ combined_at h1 h2 (clean h1 h2 indicators) j +ℤ combined_at h1 h2 noise j
    combined_plus =
        by_fours (λ (j : ℕ). combined_at h1 h2 both j ≡ combined_at h1 h2 (clean h1 h2 indicators) j +ℤ combined_at h1 h2 noise j)
        plus_0 plus_1 plus_2 plus_3

    term_plus : (s j : ℕ) → j < 32 → entry (combined h1 h2 both) j *ℤ sign s j
        ≡ entry (combined h1 h2 (clean h1 h2 indicators)) j *ℤ sign s j +ℤ entry (combined h1 h2 noise) j *ℤ sign s j
    term_plus s j l =
        ap (λ (z : ℤ). z *ℤ sign s j)
        (combined_at_lem h1 h2 both j l ∙ combined_plus j l
        ∙ sym (ap₂ (λ a b. a +ℤ b) (combined_at_lem h1 h2 (clean h1 h2 indicators) j l) (combined_at_lem h1 h2 noise j l)))
        ∙ distrib_r (entry (combined h1 h2 (clean h1 h2 indicators)) j) (entry (combined h1 h2 noise) j) (sign s j)

    pub noisy_number : (s : ℕ) → s < 16 → number_of h1 h2 both s ≡ own indicators h1 h2 s +ℤ number_of h1 h2 noise s
    unfolding number_of correlation
    noisy_number s h =
        sum_same 32 _ _ (term_plus s)
        ∙ sum_plus 32 (λ j. entry (combined h1 h2 (clean h1 h2 indicators)) j *ℤ sign s j) (λ j. entry (combined h1 h2 noise) j *ℤ sign s j)
        ∙ ap (λ (z : ℤ). z +ℤ number_of h1 h2 noise s) (clean_number s h)

  -- ---- what arrives with no noise is in range
  module _ (units : Sixteen 1 indicators) (p : Small 4096 h1) (q : Small 4096 h2) where
    sent_small : (j : ℕ) → j < 32 → Bounded 16 (entry v j)
    sent_small j l = rw (value_at_lem indicators j l) (value_small indicators j units.small)

    first_small : (k : ℕ) → k < 16 → Small 16 (symbol v k)
    first_small k l = record { re_in = sent_small (2 * k) (omega arith); im_in = sent_small (2 * k + 1) (omega arith) }

    second_small : (k : ℕ) → k < 16 → Small 16 (symbol (antenna2 indicators) k)
    second_small k l = record { re_in = kept (2 * k) (omega arith); im_in = kept (2 * k + 1) (omega arith) }
      where
        kept : (j : ℕ) → j < 32 → Bounded 16 (entry (antenna2 indicators) j)
        kept j m =
            let n = values_length indicators in
            sttd_keeps neg_ℤ (Bounded 16) (λ x b. b_neg b) (pos 0) v (λ i o. sent_small i (rw n at o)) j (rw n m)

    arriving_small : (k : ℕ) → k < 16 → Small 262144 (arriving h1 h2 indicators k)
    arriving_small k l = small_plus (small_times p (first_small k l)) (small_times q (second_small k l))

    pub clean_parts : Parts 1048576 (clean h1 h2 indicators)
    unfolding part
    clean_parts =
        record { long = clean_length; small = λ j l. rw (clean_at j l) (pick (eqb (j % 2) 0) (j / 2) (omega arith)) }
      where
        pick : (b : Bool) (k : ℕ) → k < 16 → Bounded 1048576 (cond b (arriving h1 h2 indicators k).re (arriving h1 h2 indicators k).im)
        pick true k l = b_weaken (lit≤ tt) (arriving_small k l).re_in
        pick false k l = b_weaken (lit≤ tt) (arriving_small k l).im_in
