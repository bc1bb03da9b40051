-- Where the fields of a slot end, said over the format alone, since omega is dear where much is known: within what a word counts, and within a run that is as long as a slot or as its data.
-- Assumes nothing.
use mathlib.Core.Path.{◌≡◌}
use Prim.Native.Nat.{ℕ, ◌+◌, ◌≤◌}
use native.Mathlib.Omega.{arith}
use mir.Syntax.{w64}
use mir.Val.{Fits}
use Rattle.dpch.specs.declared.Format.{Format}
use Rattle.slot.specs.Rule.{data_size}
use Rattle.slot.specs.Ready.{Sound}
use Rattle.slot.proofs.Laws.{sum}

module _ (f : Format) (s : Sound f) where
  pub whole : (f.data1 + f.tpc + f.tfci + f.data2 + f.pilot ≡ f.slot) × (f.slot ≤ 1280)
  whole = (sum f s, s.short)

  pub tpc_counts : Fits w64 (f.data1 + f.tpc)
  tpc_counts = omega (arith, whole)

  pub tfci_counts : Fits w64 (f.data1 + f.tpc + f.tfci)
  tfci_counts = omega (arith, whole)

  pub data2_counts : Fits w64 (f.data1 + f.tpc + f.tfci + f.data2)
  data2_counts = omega (arith, whole)

  pub pilot_counts : Fits w64 (f.data1 + f.tpc + f.tfci + f.data2 + f.pilot)
  pilot_counts = omega (arith, whole)

  pub data_counts : Fits w64 (f.data1 + f.data2)
  data_counts = omega (arith, whole)

  -- .. of the slot's run
  module _ {n : ℕ} (long : n ≡ f.slot) where
    pub data1_ends : f.data1 ≤ n
    data1_ends = omega (arith, whole)

    pub tpc_ends : f.data1 + f.tpc ≤ n
    tpc_ends = omega (arith, whole)

    pub tfci_ends : f.data1 + f.tpc + f.tfci ≤ n
    tfci_ends = omega (arith, whole)

    pub data2_ends : f.data1 + f.tpc + f.tfci + f.data2 ≤ n
    data2_ends = omega (arith, whole)

    pub pilot_ends : f.data1 + f.tpc + f.tfci + f.data2 + f.pilot ≤ n
    pilot_ends = omega (arith, whole)

-- .. of the data's
module _ (f : Format) {n : ℕ} (long : n ≡ data_size f) where
  pub first_ends : f.data1 ≤ n
  first_ends = omega arith

  pub both_end : f.data1 + f.data2 ≤ n
  both_end = omega arith
