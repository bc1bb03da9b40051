-- docs/RULES.md, 'Combiner': what the call answers and leaves in the lent run, for all inputs.
-- Assumes nothing.
use Rattle.std.specs.Prelude.{ℕ, ◌≡◌, Bool, not, ◌&&◌, List, length, eqb, ℤ, pos, negsuc}
use Rattle.run.specs.Verdict.{Verdict}
use Rattle.run.specs.Ranges.{between, in_range}
use Rattle.run.specs.Refusals.{length_refused, range_refused, gains_refused}
use Rattle.run.specs.Verdicts.{or_else, unless, each, leaves}
use Rattle.whole.specs.Equal.{eq_z}
use Rattle.correlator.specs.declared.Complex.{Complex}
use Rattle.correlator.specs.Rule.{numbers_of}

-- a gain part: -4096 to 4096
abbrev pub gain_in : ℤ → Bool
gain_in = between (negsuc 4095) (pos 4096)

-- a received part: -1048576 to 1048576
abbrev pub part_in : List ℤ → ℕ → Bool
part_in = in_range (negsuc 1048575) (pos 1048576)

abbrev pub is_zero : Complex → Bool
is_zero z = eq_z z.re (pos 0) && eq_z z.im (pos 0)

-- not both gains are zero
unfoldable pub some_gain : Complex → Complex → Bool
some_gain h1 h2 = not (is_zero h1 && is_zero h2)

-- 3 (received, results) ..
unfoldable pub combine_head : ℕ → ℕ → Verdict
combine_head receivedLength resultsLength =
    or_else (unless (eqb receivedLength 32) length_refused 0) (unless (eqb resultsLength 16) length_refused 1)

-- .. 11 (h1 real, h1 imaginary, h2 real, h2 imaginary as places 0 to 3, received part i at 4 + i), 12
unfoldable pub combine_body : Complex → Complex → List ℤ → Verdict
combine_body h1 h2 received =
    or_else (unless (gain_in h1.re) range_refused 0)
    (or_else (unless (gain_in h1.im) range_refused 1)
    (or_else (unless (gain_in h2.re) range_refused 2)
    (or_else (unless (gain_in h2.im) range_refused 3)
    (or_else (each 4 range_refused (part_in received) 32)
    (unless (some_gain h1 h2) gains_refused 0)))))

unfoldable pub combine_verdict : Complex → Complex → List ℤ → ℕ → Verdict
combine_verdict h1 h2 received resultsLength =
    or_else (combine_head (length received) resultsLength) (combine_body h1 h2 received)

pub record Combine (h1 h2 : Complex) (received results : List ℤ) (answer : Verdict) (results_after : List ℤ) : Type 0 where
  pub verdict_is : answer ≡ combine_verdict h1 h2 received (length results)
  pub results_is : results_after ≡ leaves (combine_verdict h1 h2 received (length results)) (numbers_of h1 h2 received) results
