-- A pass over n places from the last to the first that takes no early way out: it keeps the last place that failed, which is the lowest so far. One proof over the test.
-- Assumes nothing.
use mathlib.Core.Path.{◌≡◌, refl, sym, ap, ◌∙◌}
use mathlib.Core.Bool.{Bool, true, false}
use Prim.Native.Nat.{ℕ, ◌+◌, ◌-◌, ◌≤◌, ◌<◌}
use native.Mathlib.Omega.{arith}
use borrow.Author.Tests.{eqb-true, eqb-false}
use lib.Dec.{eqb}
use Rattle.run.specs.First.{first_bad}
use Rattle.run.proofs.First.{first_is}

-- the i last places are passed, and `first` is the lowest of them that fails, or n
pub record Backward (ok : ℕ → Bool) (n i first : ℕ) : Type 0 where
  pub within : i ≤ n
  pub low : n - i ≤ first
  pub high : first ≤ n
  pub passed : (k : ℕ) → n - i ≤ k → k < first → ok k ≡ true
  pub fails : first < n → ok first ≡ false

module _ {ok : ℕ → Bool} {n : ℕ} where
  pub back_start : Backward ok n 0 n
  back_start =
      record {
        within = omega arith;
        low = omega arith;
        high = omega arith;
        passed = λ k l h. absurd (let z : ⊥ = omega arith in z);
        fails = λ h. absurd (let z : ⊥ = omega arith in z);
      }

  pub back_good : {i first : ℕ} (s : ℕ) → Backward ok n i first → i + s + 1 ≡ n → ok s ≡ true → Backward ok n (i + 1) first
  back_good {i} {first} s inv e good =
      let w = inv.within in
      let l = inv.low in
      record {
        within = omega arith;
        low = omega arith;
        high = inv.high;
        passed = λ k m h. side k m h (eqb k s) refl;
        fails = inv.fails;
      }
    where
      side : (k : ℕ) → n - (i + 1) ≤ k → k < first → (b : Bool) → eqb k s ≡ b → ok k ≡ true
      side k m h true t = ap ok (eqb-true k s t) ∙ good
      side k m h false t =
          let other : k ≡ s → ⊥ = eqb-false k s t in
          let w = inv.within in
          inv.passed k (omega arith) h

  pub back_bad : {i first : ℕ} (s : ℕ) → Backward ok n i first → i + s + 1 ≡ n → ok s ≡ false → Backward ok n (i + 1) s
  back_bad {i} {first} s inv e bad =
      record {
        within = omega arith;
        low = omega arith;
        high = omega arith;
        passed = λ k l h. absurd (let z : ⊥ = omega arith in z);
        fails = λ _. bad;
      }

  pub back_end : {i first : ℕ} → Backward ok n i first → n ≤ i → first ≡ first_bad ok n
  back_end {i} {first} inv h = sym (first_is ok n first inv.high (λ k l. inv.passed k (omega arith) l) inv.fails)
