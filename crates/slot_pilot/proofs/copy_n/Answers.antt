-- `slot_pilot::copy_n` meets its contract: the field is all written.
use mathlib.Core.Path.{◌≡◌, sym, ◌∙◌}
use mathlib.Core.List.{List, append-nil}
use Prim.Native.Nat.{ℕ, ◌≤◌}
use native.Mathlib.Omega.{arith}
use lib.ListN.{length, take, drop_of_length-le}
use Rattle.run.specs.Written.{over}
use Rattle.slot_pilot.proofs.copy_n.Goals as goal

all-written : (n : ℕ) (dst src : List ℕ) → length dst ≡ n → n ≤ length src → take n src ≡ over src dst
unfolding over
all-written n dst src e h =
    let short : length dst ≤ length src = omega arith in
    rw (e, drop_of_length-le dst short) (sym (append-nil (take n src)))

pub returns : goal.returns
returns c = c.copy_from_slice.ensures.after ∙ all-written _ _ _ c.requires.0 c.requires.1
