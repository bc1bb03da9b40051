-- The sums of neighbours: how large they are, and that what folding leaves of them are the correlations.
-- Assumes nothing.
use mathlib.Core.Path.{◌≡◌, refl, sym, ap, ◌∙◌}
use mathlib.Core.List.{List}
use Prim.Native.Nat.{ℕ, ◌+◌, ◌*◌, ◌^◌, ◌<◌}
use native.Mathlib.Omega.{arith}
use lib.Dec.{lit<}
use lib.ListN.{length}
use lib.IntN.{ℤ, pos, ◌+ℤ◌, ◌*ℤ◌}
use Rattle.run.specs.Table.{tab}
use Rattle.run.proofs.Table.{tab_length, tab_at, tab_same}
use Rattle.whole.proofs.Bound.{b_sum}
use Rattle.whole.proofs.Laws.{distrib_r}
use Rattle.whole.proofs.Sum.{sum_same, sum_pairs}
use Rattle.signature.specs.Rule.{sign}
use Rattle.signature.specs.Folding.{parity_sum, folds}
use Rattle.signature.proofs.Signs.{sign_second}
use Rattle.signature.proofs.Folding.{entry, folds_are_sums}
use Rattle.aich.specs.Rule.{correlation}
use Rattle.correlator.specs.Method.{Parts, pair_sums, depth, Room}
use Rattle.correlator.proofs.Folding.{depth_is}

pub pairs_length : (t : List ℤ) → length (pair_sums t) ≡ 16
unfolding pair_sums
pairs_length t = tab_length 16 _

-- sum k is of components j and j + 1, where j is 2k
pub pair_at : (t : List ℤ) (k j : ℕ) → k < 16 → 2 * k ≡ j → entry (pair_sums t) k ≡ entry t j +ℤ entry t (j + 1)
unfolding pair_sums
pair_at t k j h e =
    tab_at 16 (λ (i : ℕ). entry t (2 * i) +ℤ entry t (2 * i + 1)) k (pos 0) h ∙ ap (λ (i : ℕ). entry t i +ℤ entry t (i + 1)) e

four_deep : (t : List ℤ) → depth (pair_sums t) ≡ 4
four_deep t = depth_is 4 (pair_sums t) (pairs_length t)

-- sixteen sums of pairs, each within 2^49: folded they are within 2^53
pub pairs_room : (t : List ℤ) → Parts 281474976710656 t → Room (pair_sums t)
pairs_room t p =
    record {
      bound = 281474976710656 + 281474976710656;
      long = pairs_length t ∙ ap (λ (n : ℕ). 2 ^ n) (sym (four_deep t));
      small = λ k l.
          let h : k < 16 = rw (pairs_length t) at l in
          rw (pair_at t k (2 * k) h refl) (b_sum (p.small (2 * k) (omega arith)) (p.small (2 * k + 1) (omega arith)));
      fits = rw (pairs_length t) (lit< tt);
    }

-- the sums by parity of the sums of pairs: b(s, 2k) = b(s, 2k + 1)
correlate_at : (t : List ℤ) (s : ℕ) → parity_sum 4 (pair_sums t) s ≡ correlation t s
unfolding correlation parity_sum
correlate_at t s =
    sym (sum_pairs 16 (λ j. entry t j *ℤ sign s j)
    ∙ sum_same 16 _ (λ k. entry (pair_sums t) k *ℤ sign s (2 * k))
    (λ k l. rw (sign_second s k, pair_at t k (2 * k) l refl) (sym (distrib_r (entry t (2 * k)) (entry t (2 * k + 1)) (sign s (2 * k))))))

-- the sixteen signatures: the law of folded runs at n = 4
pub correlated : (t : List ℤ) → folds (depth (pair_sums t)) (pair_sums t) ≡ tab 16 (correlation t)
correlated t =
    ap (λ (n : ℕ). folds n (pair_sums t)) (four_deep t)
    ∙ folds_are_sums 4 (pair_sums t) (pairs_length t)
    ∙ tab_same 16 (parity_sum 4 (pair_sums t)) (correlation t) (λ s h. correlate_at t s)
