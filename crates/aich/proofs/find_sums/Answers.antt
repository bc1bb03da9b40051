-- `aich::find_sums` meets its contract: each turn stores the four sums of a row.
use mathlib.Core.Path.{◌≡◌, refl, sym, ◌∙◌}
use Prim.Native.Nat.{◌<◌}
use native.Mathlib.Omega.{arith}
use Rattle.run.proofs.Front.{front_none}
use Rattle.aich.specs.Method.{Sixteen, Turned, firsts}
use Rattle.aich.proofs.Laws.{half_length}
use Rattle.aich.proofs.Reading.{firsts_small}
use Rattle.aich.proofs.Folded.{small_read, first_kept, second_kept, third_kept, fourth_kept}
use Rattle.aich.proofs.Square.{row_small, first_sum, second_sum, third_sum, fourth_sum, four_next}
use Rattle.aich.proofs.find_sums.Goals as goal
use Rattle.aich.proofs.find_sums.Goals.{After-firsts-x}

small : (c : After-firsts-x) → Sixteen 16 (firsts c.args.values.now)
small c = firsts_small _ c.requires.0.like

pub columns-requires : goal.columns-requires
columns-requires c = (rw c.firsts-x.ensures (small (goal.at.columns-requires c).After-firsts-x), omega (arith, c.requires.0.long), refl)

pub loop-k-init : goal.loop-k-init
loop-k-init c = front_none (half_length _ ∙ sym c.requires.1)

pub fold_four-folded-requires : goal.fold_four-folded-requires
fold_four-folded-requires c =
    let at_rest = goal.at.fold_four-folded-requires c in
    small_read (row_small _ _ (small at_rest.After-firsts-x) (rw c.firsts-x.ensures at c.columns.ensures) c.loop-k.k (omega (arith, c.loop-k-test.true, c.requires.0.long)))

pub loop-k-preserved : goal.loop-k-preserved
loop-k-preserved c =
    let here = goal.at.loop-k-preserved c in
    let x = firsts c.args.values.now in
    let k = c.loop-k.k in
    let h : k < 4 = omega (arith, c.loop-k-test.true, c.requires.0.long) in
    let s = small here.After-firsts-x in
    let t = rw c.firsts-x.ensures at c.columns.ensures in
    let p = row_small x _ s t k h in
    let e = c.fold_four-folded.ensures in
    four_next k _ _ _ _ c.requires.1 h c.loop-k.invariant
    (first_kept p e ∙ first_sum x _ s t k h) (second_kept p e ∙ second_sum x _ s t k h)
    (third_kept p e ∙ third_sum x _ s t k h) (fourth_kept p e ∙ fourth_sum x _ s t k h)
