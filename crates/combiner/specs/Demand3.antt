-- Demand 3 (docs/RULES.md, 'The demands'): what `combine` gives of the AICH that two antennas send by STTD, with no noise and with noise. What is sent is what
-- `aich::map` and `sttd_values::values` promise, and what is heard is what `combiner::combine` promises. Each statement is proved in proofs/Demand3.antt under its name
-- in small letters.
-- Assumes nothing.
use Rattle.std.specs.Prelude.{ℕ, ◌+◌, ◌*◌, ◌/◌, ◌%◌, ◌<◌, ◌≡◌, true, cond, List, eqb, length, get_or, ℤ, pos, neg_ℤ, ◌+ℤ◌, ◌*ℤ◌}
use Rattle.run.specs.Verdict.{Verdict}
use Rattle.run.specs.First.{Every}
use Rattle.run.specs.Table.{tab}
use Rattle.run.specs.Verdicts.{done}
use Rattle.aich.specs.Rule.{values_of}
use Rattle.aich.specs.Outcome.{map_verdict, Map}
use Rattle.sttd.specs.Rule.{sttd}
use Rattle.sttd.specs.Outcome.{Values}
use Rattle.correlator.specs.declared.Complex.{Complex}
use Rattle.correlator.specs.Complexes.{◌⊞◌, ◌⊠◌, conj, opposite, power}
use Rattle.correlator.specs.Rule.{symbol}
use Rattle.combiner.specs.Outcome.{gain_in, part_in, some_gain, Combine}

-- ---- what is sent

-- antenna 1: the values that `aich::map` writes
abbrev pub antenna1 : List ℤ → List ℤ
antenna1 indicators = values_of indicators

-- antenna 2: what `sttd_values::values` makes of them; the bar of a value is negation
abbrev pub antenna2 : List ℤ → List ℤ
antenna2 indicators = sttd neg_ℤ (values_of indicators)

-- the calls send that: where `aich::map` takes the indicators, `sttd_values::values` takes what it wrote
abbrev pub Sent : Type 0
Sent =
    (indicators values out : List ℤ) (a b : Verdict) (v w : List ℤ)
    → map_verdict indicators 32 ≡ done → length values ≡ 32 → length out ≡ 32
    → Map indicators values a v → Values v out b w
    → (a ≡ done) × (v ≡ antenna1 indicators) × (b ≡ done) × (w ≡ antenna2 indicators)

-- for a pair S1, S2 (symbols 2m and 2m + 1) antenna 2 sends -conj(S2), conj(S1)
pub record Pair (indicators : List ℤ) (m : ℕ) : Type 0 where
  pub first : symbol (antenna2 indicators) (2 * m) ≡ opposite (conj (symbol (antenna1 indicators) (2 * m + 1)))
  pub second : symbol (antenna2 indicators) (2 * m + 1) ≡ conj (symbol (antenna1 indicators) (2 * m))

abbrev pub SecondAntenna : Type 0
SecondAntenna = (indicators : List ℤ) (m : ℕ) → m < 8 → Pair indicators m

-- ---- the channel

-- symbol k at the receiver: each antenna's, times its gain, added
abbrev pub arriving : Complex → Complex → List ℤ → ℕ → Complex
arriving h1 h2 indicators k = h1 ⊠ symbol (antenna1 indicators) k ⊞ h2 ⊠ symbol (antenna2 indicators) k

-- the 32 parts of the sixteen symbols, with no noise
unfoldable pub clean : Complex → Complex → List ℤ → List ℤ
clean h1 h2 indicators =
    tab 32 (λ (j : ℕ). cond (eqb (j % 2) 0) (arriving h1 h2 indicators (j / 2)).re (arriving h1 h2 indicators (j / 2)).im)

-- and with noise added to each part
unfoldable pub noisy : Complex → Complex → List ℤ → List ℤ → List ℤ
noisy h1 h2 indicators noise = tab 32 (λ (j : ℕ). get_or (clean h1 h2 indicators) j (pos 0) +ℤ get_or noise j (pos 0))

-- ---- what the demand allows

-- any sixteen indicators that are -1, 0 or +1, and two gains in range, not both zero
pub record Allowed (indicators : List ℤ) (h1 h2 : Complex) : Type 0 where
  pub indicators_taken : map_verdict indicators 32 ≡ done
  pub h1_re_in : gain_in h1.re ≡ true
  pub h1_im_in : gain_in h1.im ≡ true
  pub h2_re_in : gain_in h2.re ≡ true
  pub h2_im_in : gain_in h2.im ≡ true
  pub not_both_zero : some_gain h1 h2 ≡ true

-- 32 whole numbers of noise, such that each of them and each received sum is in range
pub record Noise (indicators : List ℤ) (h1 h2 : Complex) (noise : List ℤ) : Type 0 where
  pub long : length noise ≡ 32
  pub noise_in : Every (part_in noise) 32
  pub sum_in : Every (part_in (noisy h1 h2 indicators noise)) 32

-- ---- the demand

-- 32 times the sum of the squared gains times the signature's own indicator
abbrev pub own : List ℤ → Complex → Complex → ℕ → ℤ
own indicators h1 h2 s = pos 32 *ℤ (power h1 +ℤ power h2) *ℤ get_or indicators s (pos 0)

-- with no noise: `combine` answers 0, and its result for each signature is its own. That what arrives is in range is not asked.
abbrev pub NoNoise : Type 0
NoNoise =
    (indicators : List ℤ) (h1 h2 : Complex) (results : List ℤ) (answer : Verdict) (after : List ℤ)
    → Allowed indicators h1 h2 → length results ≡ 16
    → Combine h1 h2 (clean h1 h2 indicators) results answer after
    → (answer ≡ done) × ((s : ℕ) → s < 16 → get_or after s (pos 0) ≡ own indicators h1 h2 s)

-- with noise: the same, plus what `combine` gives for the noise alone, which it takes too
abbrev pub WithNoise : Type 0
WithNoise =
    (indicators : List ℤ) (h1 h2 : Complex) (noise results others : List ℤ) (answer answer_alone : Verdict) (after alone : List ℤ)
    → Allowed indicators h1 h2 → Noise indicators h1 h2 noise → length results ≡ 16 → length others ≡ 16
    → Combine h1 h2 (noisy h1 h2 indicators noise) results answer after
    → Combine h1 h2 noise others answer_alone alone
    → (answer ≡ done) × (answer_alone ≡ done) × ((s : ℕ) → s < 16 → get_or after s (pos 0) ≡ own indicators h1 h2 s +ℤ get_or alone s (pos 0))
