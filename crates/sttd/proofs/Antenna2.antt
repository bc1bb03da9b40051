-- The theorems of specs/Antenna2.antt. One law is behind most of them: what goes with the bar goes with the encoding (`natural`).
-- Assumes nothing.
use mathlib.Core.Path.{◌≡◌, refl, sym, ap, ap₂, ◌∙◌}
use mathlib.Core.Bool.{true}
use mathlib.Core.List.{List, [], ◌∷◌, map, append-nil}
use Prim.Native.Nat.{ℕ, zero, suc, ◌+◌, ◌*◌, ◌/◌, ◌≤◌, ◌<◌}
use native.Mathlib.Omega.{arith}
use borrow.Author.Tests.{eq-eqb}
use lib.Dec.{leb}
use lib.ListN.{length, get_or, length-map, get_or-map}
use lib.Seq.{take-length, drop-length}
use lib.IntN.{ℤ, pos, neg_ℤ, ◌+ℤ◌, ◌-ℤ◌, ◌*ℤ◌, neg_ℤ-neg_ℤ, neg_ℤ-+ℤ}
use Rattle.run.specs.Verdict.{Verdict}
use Rattle.run.specs.Table.{tab}
use Rattle.run.specs.Verdicts.{done}
use Rattle.run.proofs.Chain.{or_else_pass, unless_pass, each_pass}
use Rattle.run.proofs.Table.{tab_length, tab_same, tab_is}
use Rattle.whole.specs.Sum.{sum}
use Rattle.whole.proofs.Laws.{*ℤ-neg}
use Rattle.whole.proofs.Ring.{solve, quoted, quote_pos, ring}
use Rattle.whole.proofs.Sum.{sum_same, sum_neg, sum_none, sum_pairs}
use Rattle.sttd.specs.Rule.{sttd, bar_digit}
use Rattle.sttd.specs.Outcome.{digits_verdict, value_in, values_verdict}
use Rattle.sttd.specs.Exact.{read_back, Block}
use Rattle.sttd.specs.Antenna2.{BothBars, ValuesEncoded, in_blocks, EncodedTwice, TwiceBars, FourTimes, ThreeTimes, CallsChain}
use Rattle.sttd.specs.Antenna2.{entry, product_re, product_im, Cancel, ZeroProduct, ZeroSum}
use Rattle.sttd.specs.Antenna2.{plus, combination, EncodedSum, EncodedMultiple, EncodedCombination}
use Rattle.sttd.proofs.Bars.{bar_twice, bar_negates, bar_keeps_digit, bar_keeps_value}
use Rattle.sttd.proofs.Laws.{sttd_length, block, sttd_keeps}
use Rattle.sttd.proofs.Runs.{digits_taken, values_taken}
use Rattle.sttd.proofs.Exact.{read_back_lem}

-- ---- bars and values

pub both_bars : BothBars
both_bars =
    record {
      of_digits = record { undoes = bar_twice; negates = bar_negates };
      of_values = record { undoes = neg_ℤ-neg_ℤ; negates = λ x. refl };
    }

-- what turns one bar into another turns one encoding into the other
natural : {A B : Type 0} (bar : A → A) (bar' : B → B) (h : A → B) → ((x : A) → h (bar x) ≡ bar' (h x)) → (s : List A) → map h (sttd bar s) ≡ sttd bar' (map h s)
unfolding sttd
natural bar bar' h e [] = refl
natural bar bar' h e (b0 ∷ []) = refl
natural bar bar' h e (b0 ∷ b1 ∷ []) = refl
natural bar bar' h e (b0 ∷ b1 ∷ b2 ∷ []) = refl
natural bar bar' h e (b0 ∷ b1 ∷ b2 ∷ b3 ∷ s) = rw (e b1, e b2, natural bar bar' h e s)

pub values_encoded : ValuesEncoded
values_encoded A bar value v = natural bar neg_ℤ value v.negates

-- ---- encoding again

pub encoded_twice : EncodedTwice
unfolding sttd
encoded_twice A bar [] = refl
encoded_twice A bar (b0 ∷ []) = refl
encoded_twice A bar (b0 ∷ b1 ∷ []) = refl
encoded_twice A bar (b0 ∷ b1 ∷ b2 ∷ []) = refl
encoded_twice A bar (b0 ∷ b1 ∷ b2 ∷ b3 ∷ s) =
    let n : 4 * (suc (suc (suc (suc (length s)))) / 4) ≡ suc (suc (suc (suc (in_blocks s)))) = omega arith in
    rw (n, encoded_twice A bar s)

pub twice_bars : TwiceBars
twice_bars A bar s e =
    let n : in_blocks s ≡ length s = omega arith in
    encoded_twice A bar s ∙ rw (n, take-length s, drop-length s) (append-nil (map bar s))

pub four_times : FourTimes
unfolding sttd
four_times A bar twice [] = refl
four_times A bar twice (b0 ∷ []) = refl
four_times A bar twice (b0 ∷ b1 ∷ []) = refl
four_times A bar twice (b0 ∷ b1 ∷ b2 ∷ []) = refl
four_times A bar twice (b0 ∷ b1 ∷ b2 ∷ b3 ∷ s) = rw (twice b0, twice b1, twice b2, twice b3, four_times A bar twice s)

pub three_times : ThreeTimes
three_times A bar twice s =
    sym (read_back_lem bar twice (sttd bar (sttd bar (sttd bar s)))) ∙ ap (read_back bar) (four_times A bar twice s)

digits_again : (input : List ℕ) (out_length : ℕ) → digits_verdict input out_length ≡ done → digits_verdict (sttd bar_digit input) out_length ≡ done
unfolding digits_verdict
digits_again input out_length e =
    let t = digits_taken input out_length (ap (λ (v : Verdict). v.number) e) in
    rw (sttd_length bar_digit input)
    (or_else_pass (unless_pass 3 0 (eq-eqb _ _ t.input_ok))
    (or_else_pass (unless_pass 3 1 (eq-eqb _ _ t.out_ok))
    (each_pass 0 4 _ _ (sttd_keeps bar_digit (λ (d : ℕ). leb d 2 ≡ true) bar_keeps_digit 0 input t.digits_ok))))

values_again : (input : List ℤ) (out_length : ℕ) → values_verdict input out_length ≡ done → values_verdict (sttd neg_ℤ input) out_length ≡ done
unfolding values_verdict
values_again input out_length e =
    let t = values_taken input out_length (ap (λ (v : Verdict). v.number) e) in
    rw (sttd_length neg_ℤ input)
    (or_else_pass (unless_pass 3 0 (eq-eqb _ _ t.input_ok))
    (or_else_pass (unless_pass 3 1 (eq-eqb _ _ t.out_ok))
    (each_pass 0 11 _ _ (sttd_keeps neg_ℤ (λ (z : ℤ). value_in z ≡ true) bar_keeps_value (pos 0) input t.range_ok))))

pub calls_chain : CallsChain
calls_chain = record { of_digits = digits_again; of_values = values_again }

-- ---- the product of the two antennas

-- of a block b0 b1 b2 b3 of values and what antenna 2 sends of it: the two products cancel, part by part
cancel : (b0 b1 b2 b3 : ℤ) → (b0 *ℤ neg_ℤ b2 +ℤ b1 *ℤ b3 +ℤ (b2 *ℤ b0 +ℤ b3 *ℤ neg_ℤ b1) ≡ pos 0)
    × (b1 *ℤ neg_ℤ b2 -ℤ b0 *ℤ b3 +ℤ (b3 *ℤ b0 -ℤ b2 *ℤ neg_ℤ b1) ≡ pos 0)
cancel b0 b1 b2 b3 =
    ring (b0 ∷ b1 ∷ b2 ∷ b3 ∷ []) (λ ρ p q r t. simp (p, q, r, t, quoted, quote_pos ρ) (solve ρ _ _ tt, solve ρ _ _ tt))

-- the two symbols of block k
pair : (v : List ℤ) (k : ℕ) → 4 * k + 4 ≤ length v
    → (product_re v (sttd neg_ℤ v) (2 * k) +ℤ product_re v (sttd neg_ℤ v) (2 * k + 1) ≡ pos 0)
    × (product_im v (sttd neg_ℤ v) (2 * k) +ℤ product_im v (sttd neg_ℤ v) (2 * k + 1) ≡ pos 0)
unfolding product_re product_im
pair v k room =
    let b : Block neg_ℤ v (pos 0) (4 * k) = block neg_ℤ v (pos 0) k room in
    let e0 : 2 * (2 * k) ≡ 4 * k = omega arith in
    let e2 : 2 * (2 * k + 1) ≡ 4 * k + 2 = omega arith in
    let e3 : 4 * k + 2 + 1 ≡ 4 * k + 3 = omega arith in
    rw (e0, e2, e3, b.first, b.second, b.third, b.fourth)
    (cancel (entry v (4 * k)) (entry v (4 * k + 1)) (entry v (4 * k + 2)) (entry v (4 * k + 3)))

-- terms that cancel two by two, from symbol 2k on
pairs_cancel : (f : ℕ → ℤ) (k n : ℕ) → ((i : ℕ) → i < n → f (2 * (k + i)) +ℤ f (2 * (k + i) + 1) ≡ pos 0) → sum (2 * n) (λ (j : ℕ). f (2 * k + j)) ≡ pos 0
pairs_cancel f k n h =
    sum_pairs n (λ (j : ℕ). f (2 * k + j))
    ∙ sum_none n _
    (λ i l.
    let e : 2 * k + 2 * i ≡ 2 * (k + i) = omega arith in
    let e1 : 2 * k + (2 * i + 1) ≡ 2 * (k + i) + 1 = omega arith in
    rw (e, e1) (h i l))

blocks_cancel : (v : List ℤ) (k n : ℕ) → 4 * (k + n) ≤ length v → Cancel v (sttd neg_ℤ v) (2 * k) (2 * n)
blocks_cancel v k n room =
    record {
      real = pairs_cancel (product_re v (sttd neg_ℤ v)) k n (λ i l. (pair v (k + i) (omega arith)).0);
      imaginary = pairs_cancel (product_im v (sttd neg_ℤ v)) k n (λ i l. (pair v (k + i) (omega arith)).1);
    }

pub zero_sum : ZeroSum
zero_sum A bar value v s k n room =
    let long : length (map value s) ≡ length s = length-map s value in
    rw (values_encoded A bar value v s) (blocks_cancel (map value s) k n (omega arith))

pub zero_product : ZeroProduct
zero_product A bar value v s k room = zero_sum A bar value v s k 1 (omega arith)

-- ---- sums and multiples of runs of whole numbers

map_tab : {A B : Type 0} (h : A → B) (n : ℕ) (f : ℕ → A) → map h (tab n f) ≡ tab n (λ (k : ℕ). h (f k))
unfolding tab
map_tab h zero f = refl
map_tab h (suc n) f = rw (map_tab h n (λ (k : ℕ). f (suc k)))

-- n runs of m entries, and what h makes of the n entries at each place. If it makes the negative of the negatives, it may be done before or after the
-- encoding: the n entries at a place are one entry of a run of their own, whose bar is a bar on each.
module _ (m n : ℕ) (run : ℕ → List ℤ) (long : (i : ℕ) → i < n → length (run i) ≡ m) where
  negatives : (ℕ → ℤ) → ℕ → ℤ
  negatives f i = neg_ℤ (f i)

  none : ℕ → ℤ
  none i = pos 0

  columns : List (ℕ → ℤ)
  columns = tab m (λ (j i : ℕ). entry (run i) j)

  -- each of the runs is in it
  row : (i : ℕ) → i < n → map (λ (f : ℕ → ℤ). f i) columns ≡ run i
  unfolding columns
  row i l = map_tab (λ (f : ℕ → ℤ). f i) m _ ∙ sym (tab_is (pos 0) (run i) m (entry (run i)) (long i l) (λ j h. refl))

  -- and so is each of them encoded
  encoded_row : (i j : ℕ) → i < n → get_or (sttd negatives columns) j none i ≡ entry (sttd neg_ℤ (run i)) j
  unfolding negatives none
  encoded_row i j l =
      sym (get_or-map (λ (f : ℕ → ℤ). f i) (sttd negatives columns) j none)
      ∙ rw (natural negatives neg_ℤ (λ (f : ℕ → ℤ). f i) (λ f. refl) columns, row i l)

  module _ (h : (ℕ → ℤ) → ℤ) (odd : (f : ℕ → ℤ) → h (negatives f) ≡ neg_ℤ (h f)) (same : (f g : ℕ → ℤ) → ((i : ℕ) → i < n → f i ≡ g i) → h f ≡ h g) where
    by_place : sttd neg_ℤ (tab m (λ (j : ℕ). h (λ (i : ℕ). entry (run i) j))) ≡ tab m (λ (j : ℕ). h (λ (i : ℕ). entry (sttd neg_ℤ (run i)) j))
    unfolding columns
    by_place =
        let all : sttd negatives columns ≡ tab m (λ (j : ℕ). get_or (sttd negatives columns) j none) =
        tab_is none (sttd negatives columns) m _ (sttd_length negatives columns ∙ tab_length m _) (λ j l. refl) in
        ap (sttd neg_ℤ) (sym (map_tab h m (λ (j i : ℕ). entry (run i) j)))
        ∙ sym (natural negatives neg_ℤ h odd columns)
        ∙ ap (map h) all
        ∙ map_tab h m _
        ∙ tab_same m _ _ (λ j l. same _ _ (λ i k. encoded_row i j k))

pub encoded_multiple : EncodedMultiple
encoded_multiple c s = sym (natural neg_ℤ neg_ℤ (λ (z : ℤ). c *ℤ z) (λ z. *ℤ-neg c z) s)

pub encoded_combination : EncodedCombination
unfolding combination negatives
encoded_combination m n c run long =
    by_place m n run long (λ (f : ℕ → ℤ). sum n (λ (i : ℕ). c i *ℤ f i))
    (λ f. sum_same n _ _ (λ i l. *ℤ-neg (c i) (f i)) ∙ sum_neg n (λ (i : ℕ). c i *ℤ f i))
    (λ f g e. sum_same n _ _ (λ i l. ap (λ (z : ℤ). c i *ℤ z) (e i l)))

pub encoded_sum : EncodedSum
unfolding plus negatives
encoded_sum s t e =
    rw (sttd_length neg_ℤ s)
    (by_place (length s) 2 both long (λ (f : ℕ → ℤ). f 0 +ℤ f 1)
    (λ f. sym (neg_ℤ-+ℤ (f 0) (f 1)))
    (λ f g h. ap₂ (λ (x y : ℤ). x +ℤ y) (h 0 (omega arith)) (h 1 (omega arith))))
  where
    both : ℕ → List ℤ
    both zero = s
    both (suc i) = t

    long : (i : ℕ) → i < 2 → length (both i) ≡ length s
    long zero l = refl
    long (suc i) l = sym e
