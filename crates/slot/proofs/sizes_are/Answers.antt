-- `slot::sizes_are` meets its contract: each return is told by what has been asked before it.
use mathlib.Core.Path.{◌≡◌, sym}
use mathlib.Core.Bool.{false}
use Prim.Native.Nat.{ℕ, ◌+◌, ◌-◌, ◌≤◌, ◌<◌}
use native.Mathlib.Omega.{arith}
use borrow.Author.Tests.{lt-ltb, ne_eqb, eq-eqb}
use lib.Dec.{eqb}
use Rattle.dpch.specs.declared.Format.{Format}
use Rattle.slot.specs.Outcome.{sizes_are}
use Rattle.slot.proofs.sizes_are.Goals as goal

module _ (f : Format) (n m l : ℕ) where
  not_there : f.kind ≡ 0 → sizes_are f n m l ≡ false
  unfolding sizes_are
  not_there e = rw e

  module _ (there : f.kind ≡ 0 → ⊥) where
    kind-some : 0 < f.kind
    kind-some = side f.kind there
      where
        side : (k : ℕ) → (k ≡ 0 → ⊥) → 0 < k
        side k h = omega arith

    data_short : n < f.data1 → sizes_are f n m l ≡ false
    unfolding sizes_are
    data_short h = rw (lt-ltb _ _ kind-some, ne_eqb n (f.data1 + f.data2) (λ e. let z : ⊥ = omega arith in z))

    data-other : f.data1 ≤ n → (n - f.data1 ≡ f.data2 → ⊥) → sizes_are f n m l ≡ false
    unfolding sizes_are
    data-other h other = rw (lt-ltb _ _ kind-some, ne_eqb n (f.data1 + f.data2) (λ e. other (omega arith)))

    module _ (h : f.data1 ≤ n) (same : n - f.data1 ≡ f.data2) where
      tfci-other : (m ≡ f.tfci → ⊥) → sizes_are f n m l ≡ false
      unfolding sizes_are
      tfci-other other = rw (lt-ltb _ _ kind-some, eq-eqb n (f.data1 + f.data2) (omega arith), ne_eqb m f.tfci other)

      slot-asked : m ≡ f.tfci → sizes_are f n m l ≡ eqb l f.slot
      unfolding sizes_are
      slot-asked e = rw (lt-ltb _ _ kind-some, eq-eqb n (f.data1 + f.data2) (omega arith), eq-eqb m f.tfci e)

pub returns-then-f-eq0 : goal.returns-then-f-eq0
returns-then-f-eq0 c = sym (not_there _ _ _ _ c.if-f-eq0.true)

pub returns-then-data_length-f : goal.returns-then-data_length-f
returns-then-data_length-f c = sym (data_short _ _ _ _ c.if-f-eq0.false c.if-data_length-f.true)

pub returns-then-data_length-f-2 : goal.returns-then-data_length-f-2
returns-then-data_length-f-2 c = sym (data-other _ _ _ _ c.if-f-eq0.false c.if-data_length-f.false c.if-data_length-f-2.true)

pub returns-then-tfci_length-f : goal.returns-then-tfci_length-f
returns-then-tfci_length-f c = sym (tfci-other _ _ _ _ c.if-f-eq0.false c.if-data_length-f.false c.if-data_length-f-2.false c.if-tfci_length-f.true)

pub returns : goal.returns
returns c = sym (slot-asked _ _ _ _ c.if-f-eq0.false c.if-data_length-f.false c.if-data_length-f-2.false c.if-tfci_length-f.false)
