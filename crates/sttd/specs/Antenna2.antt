-- The laws of the second antenna: what may be relied on where the encoder is chained, where the antennas are correlated, and where runs are added. They are said
-- once, of the STTD rule at any bar; digits and whole numbers are its two bars. docs/STTD.md has each law with a worked block.
-- Each statement is proved in proofs/Antenna2.antt under its name in small letters.
-- Assumes nothing.
use Rattle.std.specs.Prelude.{ℕ, ◌+◌, ◌*◌, ◌/◌, ◌%◌, ◌≤◌, ◌<◌, ◌≡◌, List, ◌++◌, map, length, get_or, take, drop, ℤ, pos, neg_ℤ, ◌+ℤ◌, ◌-ℤ◌, ◌*ℤ◌}
use Rattle.run.specs.Table.{tab}
use Rattle.run.specs.Verdicts.{done}
use Rattle.whole.specs.Sum.{sum}
use Rattle.sttd.specs.Rule.{sttd, bar_digit, digit_value}
use Rattle.sttd.specs.Outcome.{digits_verdict, values_verdict}
use Rattle.sttd.specs.Exact.{Involutive, read_back}

-- ---- bars and values

-- a bar over entries that have a real value: the bar undoes itself, and the value of a bar is the negative of the value
pub record ValuedBar {A : Type 0} (bar : A → A) (value : A → ℤ) : Type 0 where
  pub undoes : Involutive bar
  pub negates : (x : A) → value (bar x) ≡ neg_ℤ (value x)

-- the two: digits, and whole numbers, each of which is its own value
pub record BothBars : Type 0 where
  pub of_digits : ValuedBar bar_digit digit_value
  pub of_values : ValuedBar neg_ℤ (λ (z : ℤ). z)

-- the values of what antenna 2 sends are what it would send of the values
abbrev pub ValuesEncoded : Type 1
ValuesEncoded =
    (A : Type 0) (bar : A → A) (value : A → ℤ) → ValuedBar bar value → (s : List A) → map value (sttd bar s) ≡ sttd neg_ℤ (map value s)

-- ---- encoding again

-- the entries of a run's whole blocks
abbrev pub in_blocks : {A : Type 0} → List A → ℕ
in_blocks s = 4 * (length s / 4)

-- encoding twice puts a bar on every entry of the whole blocks; one to three entries behind them stay as they are
abbrev pub EncodedTwice : Type 1
EncodedTwice =
    (A : Type 0) (bar : A → A) (s : List A) → sttd bar (sttd bar s) ≡ map bar (take (in_blocks s) s) ++ drop (in_blocks s) s

-- so of a run of whole blocks it puts a bar on every entry
abbrev pub TwiceBars : Type 1
TwiceBars = (A : Type 0) (bar : A → A) (s : List A) → length s % 4 ≡ 0 → sttd bar (sttd bar s) ≡ map bar s

-- four encodings are none, and three read back what one encoded, of a run of any length
abbrev pub FourTimes : Type 1
FourTimes = (A : Type 0) (bar : A → A) → Involutive bar → (s : List A) → sttd bar (sttd bar (sttd bar (sttd bar s))) ≡ s

abbrev pub ThreeTimes : Type 1
ThreeTimes = (A : Type 0) (bar : A → A) → Involutive bar → (s : List A) → sttd bar (sttd bar (sttd bar s)) ≡ read_back bar s

-- and the calls can be chained: each takes what it wrote
pub record CallsChain : Type 0 where
  pub of_digits : (input : List ℕ) (out_length : ℕ) → digits_verdict input out_length ≡ done → digits_verdict (sttd bar_digit input) out_length ≡ done
  pub of_values : (input : List ℤ) (out_length : ℕ) → values_verdict input out_length ≡ done → values_verdict (sttd neg_ℤ input) out_length ≡ done

-- ---- the product of the two antennas

abbrev pub entry : List ℤ → ℕ → ℤ
entry s k = get_or s k (pos 0)

-- Entries 2k and 2k+1 are the real and imaginary part of symbol k. Symbol k of s times the conjugate of symbol k of t:
-- (a + ib)·(c - id) = (ac + bd) + i(bc - ad)
unfoldable pub product_re : List ℤ → List ℤ → ℕ → ℤ
product_re s t k = entry s (2 * k) *ℤ entry t (2 * k) +ℤ entry s (2 * k + 1) *ℤ entry t (2 * k + 1)

unfoldable pub product_im : List ℤ → List ℤ → ℕ → ℤ
product_im s t k = entry s (2 * k + 1) *ℤ entry t (2 * k) -ℤ entry s (2 * k) *ℤ entry t (2 * k + 1)

-- the products of the n symbols from symbol k on add up to zero
pub record Cancel (s t : List ℤ) (k n : ℕ) : Type 0 where
  pub real : sum n (λ (j : ℕ). product_re s t (k + j)) ≡ pos 0
  pub imaginary : sum n (λ (j : ℕ). product_im s t (k + j)) ≡ pos 0

-- those of block k, by values: symbols 2k and 2k+1
abbrev pub ZeroProduct : Type 1
ZeroProduct =
    (A : Type 0) (bar : A → A) (value : A → ℤ) → ValuedBar bar value → (s : List A) (k : ℕ) → 4 * k + 4 ≤ length s
    → Cancel (map value s) (map value (sttd bar s)) (2 * k) 2

-- and therefore those of any n blocks from block k on
abbrev pub ZeroSum : Type 1
ZeroSum =
    (A : Type 0) (bar : A → A) (value : A → ℤ) → ValuedBar bar value → (s : List A) (k n : ℕ) → 4 * (k + n) ≤ length s
    → Cancel (map value s) (map value (sttd bar s)) (2 * k) (2 * n)

-- ---- sums and multiples of runs of whole numbers

-- two runs added entry by entry; a run times a whole number; n runs of m entries, each times a whole number of its own, added
unfoldable pub plus : List ℤ → List ℤ → List ℤ
plus s t = tab (length s) (λ (j : ℕ). entry s j +ℤ entry t j)

abbrev pub times : ℤ → List ℤ → List ℤ
times c s = map (λ (z : ℤ). c *ℤ z) s

unfoldable pub combination : ℕ → ℕ → (ℕ → ℤ) → (ℕ → List ℤ) → List ℤ
combination m n c run = tab m (λ (j : ℕ). sum n (λ (i : ℕ). c i *ℤ entry (run i) j))

-- encoding a sum is the sum of the encodings, and so with a multiple; of any length, the tail included
abbrev pub EncodedSum : Type 0
EncodedSum = (s t : List ℤ) → length s ≡ length t → sttd neg_ℤ (plus s t) ≡ plus (sttd neg_ℤ s) (sttd neg_ℤ t)

abbrev pub EncodedMultiple : Type 0
EncodedMultiple = (c : ℤ) (s : List ℤ) → sttd neg_ℤ (times c s) ≡ times c (sttd neg_ℤ s)

abbrev pub EncodedCombination : Type 0
EncodedCombination =
    (m n : ℕ) (c : ℕ → ℤ) (run : ℕ → List ℤ) → ((i : ℕ) → i < n → length (run i) ≡ m)
    → sttd neg_ℤ (combination m n c run) ≡ combination m n c (λ (i : ℕ). sttd neg_ℤ (run i))
