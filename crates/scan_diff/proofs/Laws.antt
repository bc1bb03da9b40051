-- What a caller of a scan knows.
-- Assumes nothing.
use mathlib.Core.Path.{◌≡◌, sym, ◌∙◌}
use mathlib.Core.List.{List}
use Prim.Native.Nat.{ℕ, ◌≤◌, min}
use native.Mathlib.Omega.{arith}
use lib.ListN.{length}
use Rattle.run.specs.First.{first_bad, agree}
use Rattle.run.proofs.First.{none_first, no_diff}

-- two runs of one length of which `first_diff` found no place are one run
pub found_same : (s t : List ℕ) (n r : ℕ) → length s ≡ n → length t ≡ n → r ≡ first_bad (agree s t) (min (length s) (length t)) → n ≤ r → s ≡ t
found_same s t n r e f found h =
    let all : min (length s) (length t) ≡ length s = omega arith in
    let past : length s ≤ first_bad (agree s t) (length s) = rw (← (rw all at found), e) h in
    no_diff s t (e ∙ sym f) (none_first (agree s t) (length s) past)
