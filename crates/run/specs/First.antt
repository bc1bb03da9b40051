-- Tests of the places of a run, and the first place at which one fails.
-- Assumes nothing.
use Rattle.std.specs.Prelude.{ℕ, zero, suc, ◌<◌, ◌≡◌, Bool, true, cond, not, ◌&&◌, List, get_or, eqb, leb}
use Rattle.run.specs.Digits.{dtx}

-- the first place below n at which the test fails, or n where it fails at none
unfoldable pub first_bad : (ℕ → Bool) → ℕ → ℕ
first_bad ok zero = 0
first_bad ok (suc n) = cond (ok 0) (suc (first_bad (λ (k : ℕ). ok (suc k)) n)) 0

-- whether it fails at none
abbrev pub all : ℕ → (ℕ → Bool) → Bool
all n ok = leb n (first_bad ok n)

-- the test holds at every place below n
abbrev pub Every : (ℕ → Bool) → ℕ → Type 0
Every ok n = (k : ℕ) → k < n → ok k ≡ true

-- the digit at place k is at most top
abbrev pub at_most : ℕ → List ℕ → ℕ → Bool
at_most top s k = leb (get_or s k 0) top

-- the digit at place k is v
abbrev pub is_at : ℕ → List ℕ → ℕ → Bool
is_at v s k = eqb (get_or s k 0) v

-- the digit at place k is not v
abbrev pub not_at : ℕ → List ℕ → ℕ → Bool
not_at v s k = not (eqb (get_or s k 0) v)

-- the digit at place k is not DTX, and is the run's first digit
abbrev pub like_first : List ℕ → ℕ → Bool
like_first s k = not (eqb (get_or s k 0) dtx) && eqb (get_or s k 0) (get_or s 0 0)

-- two runs have the same digit at place k
abbrev pub agree : List ℕ → List ℕ → ℕ → Bool
agree s t k = eqb (get_or s k 0) (get_or t k 0)

-- a digit is DTX, or is not v
abbrev pub is_unlike : ℕ → ℕ → Bool
is_unlike v digit = not (not (eqb digit dtx) && eqb digit v)
