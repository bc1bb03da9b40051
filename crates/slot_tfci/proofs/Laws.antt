-- What a look at a field of constant width says of the TFCI's check.
-- Assumes nothing.
use mathlib.Core.Path.{◌≡◌, refl, sym, ap, ◌∙◌}
use mathlib.Core.Bool.{Bool, true, false, not, beq}
use mathlib.Core.List.{List}
use Prim.Native.Nat.{ℕ}
use native.Mathlib.Omega.{arith}
use borrow.Author.Tests.{le-leb}
use lib.Dec.{eqb}
use lib.ListN.{length, get_or}
use Rattle.run.specs.First.{all}
use Rattle.slot.specs.Rule.{tfci_stands}
use Rattle.slot_tfci.specs.Method.{kind_at}

-- a test of no place holds
pub none_to_ask : (n : ℕ) (ok : ℕ → Bool) → n ≡ 0 → true ≡ all n ok
none_to_ask n ok e = sym (le-leb n _ (omega arith))

-- a test that is asked by its opposite
pub fails : (b : Bool) → not b ≡ true → b ≡ false
fails true e = sym e
fails false e = refl

pub holds : (b : Bool) → not b ≡ false → b ≡ true
holds true e = refl
holds false e = sym e

-- a TFCI field of n digits, each of the first one's kind
pub tfci_told : (s : List ℕ) (n : ℕ) {r : Bool} → length s ≡ n → r ≡ all n (kind_at (eqb (get_or s 0 0) 2) s) → r ≡ all (length s) (tfci_stands s)
unfolding tfci_stands
tfci_told s n e told = told ∙ ap (λ (m : ℕ). all m (kind_at (eqb (get_or s 0 0) 2) s)) (sym e)
