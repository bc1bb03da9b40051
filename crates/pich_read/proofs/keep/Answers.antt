-- `pich_read::keep` meets its contract: what the scans find is what it takes to give the frame.
use mathlib.Core.Path.{◌≡◌}
use Prim.Native.Nat.{ℕ}
use native.Mathlib.Omega.{arith}
use Rattle.pich_read.proofs.Laws.{found_given}
use Rattle.pich_read.proofs.keep.Goals as goal

pub returns : goal.returns
returns g c = (
  λ e.
      rw c.copy_from_slice.ensures.after
      (found_given _ _ _ c.requires.0 c.requires.1 c.told-found c.requires.3 c.are_bits.ensures c.if-not-are_bits.false c.same_front.ensures c.if-not-same_front.false),
  λ e. absurd (let z : ◌≡◌ {A = ℕ} 0 1 = cc in omega arith),
)
