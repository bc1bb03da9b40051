-- `aich::columns` meets its contract: each turn stores a column.
use mathlib.Core.Path.{◌∙◌}
use Prim.Native.Nat.{◌<◌}
use native.Mathlib.Omega.{arith}
use Rattle.aich.proofs.Folding.{first_of_four, second_of_four, third_of_four, fourth_of_four}
use Rattle.aich.proofs.Folded.{first_kept, second_kept, third_kept, fourth_kept}
use Rattle.aich.proofs.Square.{column_small, turned_none, turned_next}
use Rattle.aich.proofs.columns.Goals as goal

pub loop-k-init : goal.loop-k-init
loop-k-init c = turned_none _ _ c.requires.2

pub loop-k-preserved : goal.loop-k-preserved
loop-k-preserved c =
    let x = c.args.x.now in
    let k = c.loop-k.k in
    let h : k < 4 = omega (arith, c.loop-k-test.true, c.requires.1) in
    let p = column_small x k c.requires.0 h in
    let e = c.fold_four-folded.ensures in
    turned_next x _ k _ _ _ _ h c.loop-k.invariant
    (first_kept p e ∙ first_of_four x k h) (second_kept p e ∙ second_of_four x k h) (third_kept p e ∙ third_of_four x k h) (fourth_kept p e ∙ fourth_of_four x k h)
