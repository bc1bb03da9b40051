-- `aich::write_values` meets its contract: each turn stores the eight values of a row.
use mathlib.Core.Path.{sym, ◌∙◌}
use Prim.Native.Nat.{◌+◌, ◌*◌, ◌<◌}
use native.Mathlib.Omega.{arith}
use Rattle.run.proofs.Front.{front_none}
use Rattle.aich.proofs.Laws.{values_length}
use Rattle.aich.proofs.Folded.{small_read, first_kept, second_kept, third_kept, fourth_kept}
use Rattle.aich.proofs.Square.{row_small, first_value, second_value, third_value, fourth_value, eight_next}
use Rattle.aich.proofs.write_values.Goals as goal

pub loop-k-init : goal.loop-k-init
loop-k-init c = front_none (values_length _ ∙ sym c.requires.1)

pub fold_four-folded-requires : goal.fold_four-folded-requires
fold_four-folded-requires c = small_read (row_small _ _ c.requires.0 c.columns.ensures c.loop-k.k (omega (arith, c.loop-k-test.true, c.requires.0.long)))

pub loop-k-preserved : goal.loop-k-preserved
loop-k-preserved c =
    let x = c.args.indicators.now in
    let k = c.loop-k.k in
    let h : k < 4 = omega (arith, c.loop-k-test.true, c.requires.0.long) in
    let t = c.columns.ensures in
    let q = c.requires.0 in
    let p = row_small x _ q t k h in
    let e = c.fold_four-folded.ensures in
    eight_next k _ _ _ _ c.requires.1 h c.loop-k.invariant
    (first_kept p e ∙ first_value x _ q t k h (8 * k) (omega arith) (omega arith))
    (first_kept p e ∙ first_value x _ q t k h (8 * k + 1) (omega arith) (omega arith))
    (second_kept p e ∙ second_value x _ q t k h (8 * k + 2) (omega arith) (omega arith))
    (second_kept p e ∙ second_value x _ q t k h (8 * k + 3) (omega arith) (omega arith))
    (third_kept p e ∙ third_value x _ q t k h (8 * k + 4) (omega arith) (omega arith))
    (third_kept p e ∙ third_value x _ q t k h (8 * k + 5) (omega arith) (omega arith))
    (fourth_kept p e ∙ fourth_value x _ q t k h (8 * k + 6) (omega arith) (omega arith))
    (fourth_kept p e ∙ fourth_value x _ q t k h (8 * k + 7) (omega arith) (omega arith))
