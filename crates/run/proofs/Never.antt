-- A refusal that no check of a chain gives does not occur.
-- Assumes nothing.
use mathlib.Core.Path.{◌≡◌}
use mathlib.Core.Bool.{Bool, true, false, cond}
use mathlib.Core.List.{List}
use Prim.Native.Nat.{ℕ, zero, suc, ◌<◌, suc-le-suc}
use native.Mathlib.Omega.{arith}
use lib.Dec.{eqb}
use Rattle.run.specs.Verdict.{Verdict}
use Rattle.run.specs.Verdicts.{or_else, unless, each, lengths, chain}

module _ (never : ℕ) (some : 0 < never) where
  -- the verdict is not refused with this number
  abbrev pub Never : Verdict → Type 0
  Never v = v.number ≡ never → ⊥

  pub or_else_never : (v w : Verdict) → Never v → Never w → Never (or_else v w)
  unfolding or_else
  or_else_never v w p q = pick (eqb v.number 0)
    where
      pick : (b : Bool) → Never (cond b w v)
      pick true = q
      pick false = p

  pub unless_never : (ok : Bool) (number place : ℕ) → (number ≡ never → ⊥) → Never (unless ok number place)
  unfolding unless
  unless_never true number place other e = omega arith
  unless_never false number place other e = other e

  pub each_never : (base number : ℕ) (ok : ℕ → Bool) (n : ℕ) → (number ≡ never → ⊥) → Never (each base number ok n)
  unfolding each
  each_never base number ok n other = unless_never _ number _ other

  pub lengths_never : (right : List Bool) → (3 ≡ never → ⊥) → Never (lengths right)
  unfolding lengths
  lengths_never right other = each_never 0 3 _ _ other

  pub chain_never : (n : ℕ) (v : ℕ → Verdict) → ((k : ℕ) → k < n → Never (v k)) → Never (chain n v)
  unfolding chain
  chain_never zero v all e = omega arith
  chain_never (suc n) v all e = or_else_never _ _ (all 0 (omega arith)) (chain_never n (λ (k : ℕ). v (suc k)) (λ k h. all (suc k) (suc-le-suc h))) e
