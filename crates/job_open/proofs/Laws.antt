-- The versions: which there are, and what each counts with.
-- Assumes nothing.
use mathlib.Core.Path.{◌≡◌, refl}
use mathlib.Core.Bool.{true, false}
use mathlib.Core.List.{List}
use Prim.Native.Nat.{ℕ, zero, suc, ◌+◌, ◌*◌, ◌≤◌}
use native.Mathlib.Nat.{zero-add}
use native.Mathlib.Omega.{arith}
use borrow.Author.Tests.{eq-eqb, ne_eqb}
use lib.ListN.{get_or}
use Rattle.job.specs.Rule.{is_version, width_of, count_in}

pub version_two : (version : ℕ) → 1 ≤ version → version ≤ 2 → is_version version ≡ true
unfolding is_version
version_two zero h k = absurd (let z : ⊥ = omega arith in z)
version_two (suc zero) h k = refl
version_two (suc (suc zero)) h k = refl
version_two (suc (suc (suc n))) h k = absurd (let z : ⊥ = omega arith in z)

pub no_version : (version : ℕ) → (version ≡ 1 → ⊥) → (version ≡ 2 → ⊥) → is_version version ≡ false
unfolding is_version
no_version version h k = rw (ne_eqb version 1 h, ne_eqb version 2 k)

module _ (version : ℕ) (file : List ℕ) where
  pub count_first : version ≡ 1 → count_in (width_of version) file ≡ get_or file 5 0
  unfolding count_in width_of
  count_first e = rw (eq-eqb version 1 e) (zero-add (get_or file 5 0))

  pub count_second : (version ≡ 1 → ⊥) → count_in (width_of version) file ≡ get_or file 5 0 * 256 + get_or file 6 0
  unfolding count_in width_of
  count_second h = rw (ne_eqb version 1 h, zero-add (get_or file 5 0))
