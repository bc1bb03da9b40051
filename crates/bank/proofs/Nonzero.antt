-- What a part answers that has a number to tell, or none.
-- Assumes nothing.
use mathlib.Core.Path.{◌≡◌, refl, sym, ap, ◌∙◌}
use Prim.Native.Nat.{ℕ, zero, suc, ◌<◌}
use native.Mathlib.Omega.{arith}
use Rattle.std.specs.declared.option.Option.TheVariants.{Some, None}
use Rattle.bank.specs.Outcome.{nonzero}

pub none_is : {n : ℕ} → n ≡ 0 → None ≡ nonzero n
none_is e = rw e

pub some_is : {k n : ℕ} → k ≡ n → 0 < k → Some k ≡ nonzero n
some_is {k} {n = zero} e some = absurd (let z : ⊥ = omega arith in z)
some_is {k} {n = suc n} e some = ap (λ j. Some j) e

pub is_none : {n : ℕ} → None ≡ nonzero n → n ≡ 0
is_none {n = zero} e = refl
is_none {n = suc n} e = cc

pub is_some : {k n : ℕ} → Some k ≡ nonzero n → (k ≡ n) × (0 < k)
is_some {k} {n = zero} e = cc
is_some {k} {n = suc n} e = let same : k ≡ suc n = cc in (same, omega arith)

pub nonzero_not : {k n : ℕ} → Some k ≡ nonzero n → n ≡ 0 → ⊥
nonzero_not {k} {n = zero} e z = cc
nonzero_not {k} {n = suc n} e z = let w : ⊥ = omega arith in w
