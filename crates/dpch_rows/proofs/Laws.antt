-- The rows of compressed frames and the normal ones: by the rule that pins the printed rows.
-- Assumes nothing.
use mathlib.Core.Path.{◌≡◌, refl, sym, ap, ◌∙◌}
use mathlib.Core.Bool.{true, false, cond}
use Prim.Native.Nat.{ℕ, zero, suc, ◌-◌, ◌*◌, ◌≤◌, ◌<◌}
use native.Mathlib.Nat.{not-suc-le-zero, mul-le-mul_right}
use native.Mathlib.Omega.{arith}
use borrow.Author.Tests.{eqb-true, eqb-false}
use lib.Dec.{eqb}
use Rattle.run.specs.Fields.{total}
use Rattle.dpch.specs.declared.Format.{Format}
use Rattle.dpch.specs.Formats.{kind_a, no_row, formats, format_of}
use Rattle.dpch.specs.Compressed.{compressed_row, format_in}
use Rattle.dpch.specs.Exact.{as_a, as_b}
use Rattle.dpch.proofs.Exact.{format_sizes, normal_fill, pinned}
use Rattle.dpch_rows.specs.Ready.{Beside}

-- no kind has a row 17
pub none : format_of 17 ≡ no_row
unfolding format_of formats
none = refl

-- a kind that is A or B
a_or_b : (P : ℕ → Type 0) → P 1 → P 2 → (kind : ℕ) → 0 < kind → kind ≤ 2 → P kind
a_or_b P a b zero some most = absurd (not-suc-le-zero some)
a_or_b P a b (suc zero) some most = a
a_or_b P a b (suc (suc zero)) some most = b
a_or_b P a b (suc (suc (suc n))) some most = absurd (let z : ⊥ = omega arith in z)

-- a field once or twice
pub times : (kind x : ℕ) → kind ≤ 2 → x ≤ 1280 → kind * x ≤ 2560
times kind x h small = let r = mul-le-mul_right x h in omega arith

module _ (kind : ℕ) (f : Format) (b : Beside kind f) where
  pub gives_up : (2 - kind) * f.tfci ≤ kind * f.data2
  gives_up = let h = b.gives_up in a_or_b (λ (k : ℕ). (2 - k) * f.tfci ≤ k * f.data2) (omega arith) (omega arith) kind b.some b.most

  pub beside_is : compressed_row kind (kind * f.data1) (kind * f.data2 - (2 - kind) * f.tfci) (kind * f.tpc) (2 * f.tfci) (kind * f.pilot) (kind * f.slot)
      ≡ cond (eqb kind kind_a) (as_a f) (as_b f)
  beside_is =
      a_or_b
      (λ (k : ℕ). compressed_row k (k * f.data1) (k * f.data2 - (2 - k) * f.tfci) (k * f.tpc) (2 * f.tfci) (k * f.pilot) (k * f.slot) ≡ cond (eqb k kind_a) (as_a f) (as_b f))
      (same (omega arith) (omega arith) (omega arith) (omega arith) (omega arith)) (same refl (omega arith) refl refl refl) kind b.some b.most
    where
      same : {k a d c t p s x y z u v : ℕ} → a ≡ x → d ≡ y → c ≡ z → p ≡ u → s ≡ v → compressed_row k a d c t p s ≡ compressed_row k x y z t u v
      same {k} {a} {d} {c} {t} {p} {s} e1 e2 e3 e4 e5 = λ i. compressed_row k (e1 i) (e2 i) (e3 i) t (e4 i) (e5 i)

-- a normal row is small enough, and Data2 has as many digits as the TFCI
pub beside : (kind n : ℕ) {f : Format} → (kind ≡ 0 → ⊥) → kind ≤ 2 → f ≡ format_of n → Beside kind f
unfolding total
beside kind n some most e =
    let fills = normal_fill n in
    let short = (format_sizes n).short in
    rw e
    (record {
      some = above kind some;
      most = most;
      data1 = omega arith;
      data2 = omega arith;
      tpc = omega arith;
      tfci = omega arith;
      pilot = omega arith;
      slot = short;
      gives_up = pinned.gives_up n;
    })
  where
    above : (k : ℕ) → (k ≡ 0 → ⊥) → 0 < k
    above zero h = absurd (h refl)
    above (suc k) h = omega arith

module _ (kind n : ℕ) {f : Format} (b : Beside kind f) where
  pub lacking : cond (eqb kind kind_a) (eqb n 1) (eqb n 16) ≡ true → format_in kind n ≡ no_row
  lacking =
      a_or_b (λ (k : ℕ). cond (eqb k kind_a) (eqb n 1) (eqb n 16) ≡ true → format_in k n ≡ no_row)
      (λ e. ap (format_in 1) (eqb-true n 1 e) ∙ pinned.no_1_a) (λ e. ap (format_in 2) (eqb-true n 16 e) ∙ pinned.no_16_b) kind b.some b.most

  pub there : n ≤ 16 → cond (eqb kind kind_a) (eqb n 1) (eqb n 16) ≡ false → f ≡ format_of n → cond (eqb kind kind_a) (as_a f) (as_b f) ≡ format_in kind n
  there h =
      a_or_b (λ (k : ℕ). cond (eqb k kind_a) (eqb n 1) (eqb n 16) ≡ false → f ≡ format_of n → cond (eqb k kind_a) (as_a f) (as_b f) ≡ format_in k n)
      (λ e is. ap as_a is ∙ sym (pinned.a_is n h (eqb-false n 1 e)))
      (λ e is. ap as_b is ∙ sym (pinned.b_is n (let other = eqb-false n 16 e in omega (arith, other)))) kind b.some b.most
