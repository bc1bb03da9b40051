-- What else is said of the combiner, of the AICH on two antennas, and of the promise. Each statement is proved in proofs/Exact.antt under its name in small
-- letters. Demand 3 is in Demand3.antt.
-- Assumes nothing.
use Rattle.std.specs.Prelude.{ℕ, ◌≡◌, List, get_or, ℤ, pos, neg_ℤ, ◌*ℤ◌}
use Rattle.run.specs.Verdict.{Verdict}
use Rattle.run.specs.Table.{tab}
use Rattle.run.specs.Verdicts.{done, Narrow}
use Rattle.whole.specs.Sum.{sum}
use Rattle.signature.specs.Rule.{sign}
use Rattle.aich.specs.Rule.{values_of}
use Rattle.aich.specs.Outcome.{map_verdict}
use Rattle.sttd.specs.Rule.{sttd}
use Rattle.sttd.specs.Outcome.{values_verdict}
use Rattle.sttd.specs.Antenna2.{product_re, product_im}
use Rattle.correlator.specs.declared.Complex.{Complex}
use Rattle.correlator.specs.Complexes.{cx, ◌⊠◌, conj}
use Rattle.correlator.specs.Rule.{symbol}
use Rattle.combiner.specs.Outcome.{combine_verdict, Combine}

-- what `aich::map` writes, `sttd_values::values` takes
abbrev pub EncoderTakes : Type 0
EncoderTakes = (indicators : List ℤ) → map_verdict indicators 32 ≡ done → values_verdict (values_of indicators) 32 ≡ done

-- encoding the signatures one by one and then summing gives what encoding the sum gives (docs/RULES.md, 'STTD'; TS 25.211, 5.3.3.7)
abbrev pub SumOfEncoded : Type 0
SumOfEncoded =
    (indicators : List ℤ)
    → tab 32 (λ (j : ℕ). sum 16 (λ (s : ℕ). get_or indicators s (pos 0) *ℤ get_or (sttd neg_ℤ (tab 32 (sign s))) j (pos 0)))
    ≡ sttd neg_ℤ (values_of indicators)

-- the product of the two antennas, as the laws of `sttd` say it by its parts (sttd, specs/Antenna2.antt), is the product of complex numbers
abbrev pub ProductAgrees : Type 0
ProductAgrees = (s t : List ℤ) (k : ℕ) → symbol s k ⊠ conj (symbol t k) ≡ cx (product_re s t k) (product_im s t k)

-- the promise allows one outcome
abbrev pub CombineOnce : Type 0
CombineOnce =
    (h1 h2 : Complex) (received results : List ℤ) (a b : Verdict) (x y : List ℤ)
    → Combine h1 h2 received results a x → Combine h1 h2 received results b y → (a ≡ b) × (x ≡ y)

-- number and place fit the 16 and 32 bits that the C boundary has for them
abbrev pub Packs : Type 0
Packs = (h1 h2 : Complex) (received : List ℤ) (results_length : ℕ) → Narrow (combine_verdict h1 h2 received results_length)
