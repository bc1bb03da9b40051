-- The theorems of specs/Exact.antt.
-- Assumes nothing.
use mathlib.Core.Path.{◌≡◌, refl, sym, ap, ◌∙◌}
use mathlib.Core.List.{List, [], ◌∷◌}
use Prim.Native.Nat.{ℕ, ◌≤◌}
use native.Mathlib.Omega.{arith}
use borrow.Author.Tests.{eqb-true}
use lib.Dec.{lit<}
use lib.IntN.{ℤ}
use lib.ListN.{length}
use Rattle.run.specs.Verdicts.{Narrow}
use Rattle.run.proofs.Chain.{check_narrow, each_narrow, one_outcome}
use Rattle.sttd.specs.Rule.{sttd}
use Rattle.sttd.specs.Outcome.{digits_verdict, values_verdict}
use Rattle.sttd.specs.Exact.{read_back, Involutive, RuleLaws, DigitsOnce, ValuesOnce, Packs}
use Rattle.sttd.proofs.Laws.{sttd_length, block, tail_kept}

module _ {A : Type 0} (bar : A → A) (twice : Involutive bar) where
  pub read_back_lem : (s : List A) → read_back bar (sttd bar s) ≡ s
  unfolding sttd read_back
  read_back_lem [] = refl
  read_back_lem (b0 ∷ []) = refl
  read_back_lem (b0 ∷ b1 ∷ []) = refl
  read_back_lem (b0 ∷ b1 ∷ b2 ∷ []) = refl
  read_back_lem (b0 ∷ b1 ∷ b2 ∷ b3 ∷ s) = rw (twice b1, twice b2, read_back_lem s)

  one_input : (s t : List A) → sttd bar s ≡ sttd bar t → s ≡ t
  one_input s t e = sym (read_back_lem s) ∙ ap (read_back bar) e ∙ read_back_lem t

pub rule_laws : RuleLaws
rule_laws A bar =
    record {
      same_length = sttd_length bar;
      by_blocks = block bar;
      tail_kept = tail_kept bar;
      reads_back = read_back_lem bar;
      one_input = one_input bar;
    }

pub digits_once : DigitsOnce
digits_once input out a b x y p r = (one_outcome p.verdict_is r.verdict_is, one_outcome p.out_is r.out_is)

pub values_once : ValuesOnce
values_once input out a b x y p r = (one_outcome p.verdict_is r.verdict_is, one_outcome p.out_is r.out_is)

digits_narrow : (input : List ℕ) (out_length : ℕ) → length input ≤ 4294967295 → Narrow (digits_verdict input out_length)
unfolding digits_verdict
digits_narrow input out_length h =
    check_narrow _ 3 0 _ (lit< tt) (lit< tt) (lit< tt)
    (λ _. check_narrow _ 3 1 _ (lit< tt) (lit< tt) (lit< tt)
    (λ _. each_narrow 0 4 _ _ (lit< tt) (omega arith)))

values_narrow : (input : List ℤ) (out_length : ℕ) → Narrow (values_verdict input out_length)
unfolding values_verdict
values_narrow input out_length =
    check_narrow _ 3 0 _ (lit< tt) (lit< tt) (lit< tt)
    (λ e. check_narrow _ 3 1 _ (lit< tt) (lit< tt) (lit< tt)
    (λ _. let n : length input ≡ 32 = eqb-true _ _ e in each_narrow 0 11 _ _ (lit< tt) (omega arith)))

pub packs : Packs
packs = record { digits_narrow = digits_narrow; values_narrow = values_narrow }
