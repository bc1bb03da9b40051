-- T by the laws of a ring: of what two antennas send it is the sum of the squared gains times the first's symbols, and of a sum it is the sum.
-- Assumes nothing.
use mathlib.Core.Path.{◌≡◌}
use mathlib.Core.List.{[], ◌∷◌}
use lib.IntN.{ℤ, ◌+ℤ◌, ◌*ℤ◌}
use Rattle.whole.proofs.Ring.{solve, quoted, ring}
use Rattle.correlator.specs.declared.Complex.{Complex}
use Rattle.correlator.specs.Complexes.{◌⊞◌, ◌⊠◌, conj, opposite, power}
use Rattle.correlator.specs.Rule.{t1, t2}

abbrev gain : Complex → Complex → ℤ
gain h1 h2 = power h1 +ℤ power h2

module _ (h1 h2 s1 s2 : Complex) where
  abbrev r1 : Complex
  r1 = h1 ⊠ s1 ⊞ h2 ⊠ opposite (conj s2)

  abbrev r2 : Complex
  r2 = h1 ⊠ s2 ⊞ h2 ⊠ conj s1

  pub pair_clean : ((t1 h1 h2 r1 r2).re ≡ gain h1 h2 *ℤ s1.re) × ((t1 h1 h2 r1 r2).im ≡ gain h1 h2 *ℤ s1.im)
      × ((t2 h1 h2 r1 r2).re ≡ gain h1 h2 *ℤ s2.re) × ((t2 h1 h2 r1 r2).im ≡ gain h1 h2 *ℤ s2.im)
  pair_clean =
      ring (h1.re ∷ h1.im ∷ h2.re ∷ h2.im ∷ s1.re ∷ s1.im ∷ s2.re ∷ s2.im ∷ [])
      (λ ρ p₀ p₁ p₂ p₃ p₄ p₅ p₆ p₇.
      simp (p₀, p₁, p₂, p₃, p₄, p₅, p₆, p₇, quoted)
      (solve ρ _ _ tt, solve ρ _ _ tt, solve ρ _ _ tt, solve ρ _ _ tt))

module _ (h1 h2 r1 r2 n1 n2 : Complex) where
  pub pair_plus : ((t1 h1 h2 (r1 ⊞ n1) (r2 ⊞ n2)).re ≡ (t1 h1 h2 r1 r2).re +ℤ (t1 h1 h2 n1 n2).re)
      × ((t1 h1 h2 (r1 ⊞ n1) (r2 ⊞ n2)).im ≡ (t1 h1 h2 r1 r2).im +ℤ (t1 h1 h2 n1 n2).im)
      × ((t2 h1 h2 (r1 ⊞ n1) (r2 ⊞ n2)).re ≡ (t2 h1 h2 r1 r2).re +ℤ (t2 h1 h2 n1 n2).re)
      × ((t2 h1 h2 (r1 ⊞ n1) (r2 ⊞ n2)).im ≡ (t2 h1 h2 r1 r2).im +ℤ (t2 h1 h2 n1 n2).im)
  pair_plus =
      ring (h1.re ∷ h1.im ∷ h2.re ∷ h2.im ∷ r1.re ∷ r1.im ∷ r2.re ∷ r2.im ∷ n1.re ∷ n1.im ∷ n2.re ∷ n2.im ∷ [])
      (λ ρ p₀ p₁ p₂ p₃ p₄ p₅ p₆ p₇ p₈ p₉ p₁₀ p₁₁.
      simp (p₀, p₁, p₂, p₃, p₄, p₅, p₆, p₇, p₈, p₉, p₁₀, p₁₁, quoted)
      (solve ρ _ _ tt, solve ρ _ _ tt, solve ρ _ _ tt, solve ρ _ _ tt))
