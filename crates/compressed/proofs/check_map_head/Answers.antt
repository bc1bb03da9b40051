-- `compressed::check_map_head` meets its contract.
use mathlib.Core.Path.{◌∙◌}
use Prim.Native.Nat.{◌≤◌}
use native.Mathlib.Omega.{arith}
use Rattle.compressed.specs.Outcome.{map_head}
use Rattle.compressed.proofs.Gap.{small_product}
use Rattle.compressed.proofs.check_map_head.Goals as goal

pub overflow_mul-n : goal.overflow_mul-n
overflow_mul-n c =
    let s = c.row_sizes-s.ensures in
    let t : c.transmitted-n.result ≤ 15 = let e = c.transmitted-n.ensures in omega arith in
    omega (arith, small_product _ _ t s.data_short)

pub overflow_mul-n-2 : goal.overflow_mul-n-2
overflow_mul-n-2 c =
    let s = c.row_sizes-s.ensures in
    let t : c.transmitted-n.result ≤ 15 = let e = c.transmitted-n.ensures in omega arith in
    omega (arith, small_product _ _ t s.tfci_short)

pub returns : goal.returns
unfolding map_head
returns c =
    let s = c.row_sizes-s.ensures in
    c.check_gap_head.ensures ∙ rw (c.format_in.ensures, c.transmitted-n.ensures, s.data_is, s.tfci_is, s.slot_is)
