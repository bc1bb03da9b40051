-- Sums over the signatures (docs/RULES.md, 'AICH') without a term for each signature and place: a run is folded. The rule's b(s, 2k) is the parity of s and k for
-- all numbers s and k, so the law is stated over runs of 2^n numbers; the sixteen signatures are its case n = 4. Nothing here is part of a public promise.
-- The statement is proved in proofs/Folding.antt under its name in small letters.
-- Assumes nothing.
use Rattle.std.specs.Prelude.{ℕ, zero, suc, ◌+◌, ◌*◌, ◌^◌, ◌≡◌, List, ◌++◌, length, get_or, ℤ, pos, ◌+ℤ◌, ◌-ℤ◌, ◌*ℤ◌}
use Rattle.run.specs.Table.{tab}
use Rattle.whole.specs.Sum.{sum}
use Rattle.signature.specs.Rule.{sign}

-- +1 where s and k have an even number of one bits in common, else -1
abbrev pub parity : ℕ → ℕ → ℤ
parity s k = sign s (2 * k)

-- the sum of 2^n numbers, each with the sign of its parity with s
unfoldable pub parity_sum : ℕ → List ℤ → ℕ → ℤ
parity_sum n x s = sum (2 ^ n) (λ (k : ℕ). get_or x k (pos 0) *ℤ parity s k)

-- two halves of h numbers: the sums of what stands at the same place, and the differences
unfoldable pub sums : ℕ → List ℤ → List ℤ
sums h x = tab h (λ (k : ℕ). get_or x k (pos 0) +ℤ get_or x (h + k) (pos 0))

unfoldable pub differences : ℕ → List ℤ → List ℤ
differences h x = tab h (λ (k : ℕ). get_or x k (pos 0) -ℤ get_or x (h + k) (pos 0))

-- a run of 2^n numbers, folded: one number stays as it is; of more, the sums of the two halves are folded, and behind them their differences
unfoldable pub folds : ℕ → List ℤ → List ℤ
folds zero x = x
folds (suc n) x = folds n (sums (2 ^ n) x) ++ folds n (differences (2 ^ n) x)

-- folding leaves at place s the sum of all numbers, each with the sign of its parity with s
abbrev pub FoldsAreSums : Type 0
FoldsAreSums = (n : ℕ) (x : List ℤ) → length x ≡ 2 ^ n → folds n x ≡ tab (2 ^ n) (parity_sum n x)
