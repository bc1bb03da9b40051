-- The theorems of specs/Exact.antt.
-- Assumes nothing.
use mathlib.Core.Path.{◌≡◌, refl, sym, ap, ◌∙◌}
use mathlib.Core.List.{[], ◌∷◌}
use Prim.Native.Nat.{◌+◌, ◌*◌}
use borrow.Author.Tests.{eq-eqb}
use lib.Dec.{lit<}
use lib.IntN.{ℤ, pos, neg_ℤ, ◌+ℤ◌, ◌-ℤ◌, ◌*ℤ◌}
use Rattle.run.specs.Ranges.{between}
use Rattle.run.specs.Table.{tab}
use Rattle.run.proofs.Chain.{or_else_pass, unless_pass, each_pass, check_narrow, unless_narrow, each_narrow, or_else_narrow, one_outcome, number_0}
use Rattle.run.proofs.Table.{tab_length, tab_at, tab_same}
use Rattle.whole.proofs.Bound.{range_low, range_high}
use Rattle.whole.proofs.Ring.{solve, quoted, ring}
use Rattle.whole.proofs.Sum.{sum_same}
use Rattle.signature.specs.Rule.{sign}
use Rattle.aich.specs.Rule.{value_at, values_of}
use Rattle.aich.proofs.Checks.{taken}
use Rattle.aich.proofs.Laws.{entry, values_length, value_at_lem, value_small}
use Rattle.sttd.specs.Rule.{sttd}
use Rattle.sttd.specs.Outcome.{values_verdict}
use Rattle.sttd.specs.Antenna2.{product_re, product_im, combination}
use Rattle.sttd.proofs.Antenna2.{encoded_combination}
use Rattle.correlator.specs.Complexes.{cx}
use Rattle.combiner.specs.Outcome.{combine_head, combine_body, combine_verdict}
use Rattle.combiner.specs.Exact.{EncoderTakes, SumOfEncoded, ProductAgrees, CombineOnce, Packs}

pub encoder_takes : EncoderTakes
unfolding values_verdict between
encoder_takes indicators e =
    let units = (taken indicators 32 (number_0 e)).indicators_ok in
    let n = values_length indicators in
    or_else_pass (unless_pass 3 0 (eq-eqb _ _ n))
    (or_else_pass (unless_pass 3 1 (eq-eqb 32 32 refl))
    (each_pass 0 11 _ _
    (λ j l.
    let b = value_small indicators j units.small in
    rw (value_at_lem indicators j (rw n at l), range_low 15 _ b, range_high 15 _ b))))

-- what the indicators give is a sum of signatures, each times its indicator
pub sum_of_encoded : SumOfEncoded
unfolding combination values_of value_at
sum_of_encoded indicators =
    sym (encoded_combination 32 16 (entry indicators) (λ s. tab 32 (sign s)) (λ s l. tab_length 32 (sign s)))
    ∙ ap (sttd neg_ℤ) (tab_same 32 _ _ (λ j h. sum_same 16 _ _ (λ s l. ap (λ (z : ℤ). entry indicators s *ℤ z) (tab_at 32 (sign s) j (pos 0) h))))

-- (a + ib)·(c - id), part by part
conj_product : (a b c d : ℤ) → (a *ℤ c -ℤ b *ℤ neg_ℤ d ≡ a *ℤ c +ℤ b *ℤ d) × (a *ℤ neg_ℤ d +ℤ b *ℤ c ≡ b *ℤ c -ℤ a *ℤ d)
conj_product a b c d = ring (a ∷ b ∷ c ∷ d ∷ []) (λ ρ p q r u. simp (p, q, r, u, quoted) (solve ρ _ _ tt, solve ρ _ _ tt))

pub product_agrees : ProductAgrees
unfolding product_re product_im
product_agrees s t k =
    let parts = conj_product (entry s (2 * k)) (entry s (2 * k + 1)) (entry t (2 * k)) (entry t (2 * k + 1)) in
    λ i. cx (parts.0 i) (parts.1 i)

pub combine_once : CombineOnce
combine_once h1 h2 received results a b x y p r =
    (one_outcome p.verdict_is r.verdict_is, one_outcome p.results_is r.results_is)

pub packs : Packs
unfolding combine_verdict combine_head combine_body
packs h1 h2 received resultsLength =
    or_else_narrow _ _
    (check_narrow _ 3 0 _ (lit< tt) (lit< tt) (lit< tt) (λ _. unless_narrow _ 3 1 (lit< tt) (lit< tt)))
    (λ _. check_narrow _ 11 0 _ (lit< tt) (lit< tt) (lit< tt)
    (λ _. check_narrow _ 11 1 _ (lit< tt) (lit< tt) (lit< tt)
    (λ _. check_narrow _ 11 2 _ (lit< tt) (lit< tt) (lit< tt)
    (λ _. check_narrow _ 11 3 _ (lit< tt) (lit< tt) (lit< tt)
    (λ _. or_else_narrow _ _ (each_narrow 4 11 _ 32 (lit< tt) (lit< tt)) (λ _. unless_narrow _ 12 0 (lit< tt) (lit< tt)))))))
