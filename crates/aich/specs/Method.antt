-- How the code finds sums over signatures: what its private functions promise. Nothing here is part of a public promise.
-- Values come in equal pairs, b(s, 2k) = b(s, 2k + 1), so sixteen sums are found and not 32; and those are found by four foldings of the run.
-- Assumes nothing.
use Rattle.std.specs.Prelude.{[], ◌∷◌, Result, Ok, Err, ℕ, ◌+◌, ◌*◌, ◌/◌, ◌%◌, ◌<◌, ◌≡◌, Bool, cond, ◌&&◌, List, eqb, length, get_or, ℤ, pos, negsuc, ◌+ℤ◌, ◌-ℤ◌, ◌*ℤ◌}
use Rattle.std.specs.Int.Signed.{lt_z}
use Rattle.run.specs.declared.refusal.Refusal.{Refusal}
use Rattle.run.specs.Answers.{verdict_of}
use Rattle.run.specs.First.{Every}
use Rattle.run.specs.Ranges.{between}
use Rattle.run.specs.Table.{tab}
use Rattle.whole.specs.Equal.{eq_z}
use Rattle.whole.specs.Bound.{Bounded}
use Rattle.aich.specs.Rule.{value_at}
use Rattle.aich.specs.Outcome.{read_verdict}

-- sixteen numbers, each in -B to B
pub record Sixteen (B : ℕ) (x : List ℤ) : Type 0 where
  pub long : length x ≡ 16
  pub small : (k : ℕ) → k < 16 → Bounded B (get_or x k (pos 0))

-- entries k and k + 8 become their sum and their difference, side by side
unfoldable pub fold_at : (ℕ → ℤ) → ℕ → ℤ
fold_at x k = cond (eqb (k % 2) 0) (x (k / 2) +ℤ x (k / 2 + 8)) (x (k / 2) -ℤ x (k / 2 + 8))

unfoldable pub folded : List ℤ → List ℤ
folded x = tab 16 (fold_at (λ (k : ℕ). get_or x k (pos 0)))

-- two foldings of four numbers
unfoldable pub fold_four : ℤ → ℤ → ℤ → ℤ → List ℤ
fold_four a b c d = (a +ℤ b +ℤ (c +ℤ d)) ∷ (a -ℤ b +ℤ (c -ℤ d)) ∷ (a +ℤ b -ℤ (c +ℤ d)) ∷ (a -ℤ b -ℤ (c -ℤ d)) ∷ []

-- the first m columns of y, a square of four by four, are the rows of what two foldings of x give
pub record Turned (m : ℕ) (x y : List ℤ) : Type 0 where
  pub long : length y ≡ 16
  pub at : (k t : ℕ) → k < m → t < 4 → get_or y (k + 4 * t) (pos 0) ≡ get_or (folded (folded x)) (4 * k + t) (pos 0)

-- one value of each pair that the indicators give
unfoldable pub half_of : List ℤ → List ℤ
half_of indicators = tab 16 (λ (k : ℕ). value_at indicators (2 * k))

-- one value of each pair
unfoldable pub firsts : List ℤ → List ℤ
firsts values = tab 16 (λ (k : ℕ). get_or values (2 * k) (pos 0))

-- two equal values, in -16 to 16
unfoldable pub is_pair : ℤ → ℤ → Bool
is_pair a b = eq_z a b && between (negsuc 15) (pos 16) a

-- pair k is such
abbrev pub alike : List ℤ → ℕ → Bool
alike values k = is_pair (get_or values (2 * k) (pos 0)) (get_or values (2 * k + 1) (pos 0))

-- sixteen such pairs
pub record Paired (values : List ℤ) : Type 0 where
  pub long : length values ≡ 32
  pub like : Every (alike values) 16

-- the sums over the pairs, where a call hands them out
abbrev pub SumsOf : List ℤ → Result (List ℤ) Refusal → Type 0
SumsOf values (Ok sums) = sums ≡ half_of (firsts values)
SumsOf values (Err _) = Unit {0}

-- what the checks answer, with the sums that they left
abbrev pub with_sums : Result (Unit {0}) Refusal → List ℤ → Result (List ℤ) Refusal
with_sums (Ok _) sums = Ok sums
with_sums (Err refusal) _ = Err refusal

-- what the checks of `read` answer: its verdict, and where it is done the sums
pub record Summed (values : List ℤ) (indicators_length : ℕ) (answer : Result (List ℤ) Refusal) : Type 0 where
  pub verdict_is : verdict_of answer ≡ read_verdict values indicators_length
  pub sums_are : SumsOf values answer

-- the sign of a sum
unfoldable pub sign_of : ℤ → ℤ
sign_of z = cond (lt_z (pos 0) z) (pos 1) (cond (lt_z z (pos 0)) (negsuc 0) (pos 0))

-- 16 times an indicator
unfoldable pub fits16 : ℤ → Bool
fits16 z = eq_z (pos 16 *ℤ sign_of z) z

abbrev pub fits_at : List ℤ → ℕ → Bool
fits_at sums s = fits16 (get_or sums s (pos 0))

-- the indicators of sums that fit
unfoldable pub units_of : List ℤ → List ℤ
units_of sums = tab 16 (λ (s : ℕ). sign_of (get_or sums s (pos 0)))
