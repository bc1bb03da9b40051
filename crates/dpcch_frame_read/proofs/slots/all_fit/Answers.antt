-- `dpcch_frame_read::slots::all_fit` meets its contract: where all fitted so far, none of them is refused.
use mathlib.Core.Path.{sym}
use mathlib.Core.Bool.{false≢true}
use Prim.Native.Nat.{◌+◌, ◌-◌, ◌*◌}
use native.Mathlib.Nat.{not-suc-le-zero}
use native.Mathlib.Omega.{arith}
use borrow.Author.Count.{below_more}
use lib.ListN.{take, drop}
use Rattle.run.proofs.Chain.{chain_end, number_0}
use Rattle.run.proofs.Parts.{part_room}
use Rattle.dpcch.proofs.Laws.{sizes}
use Rattle.dpcch.proofs.Frames.{digits_at}
use Rattle.dpcch_fits.proofs.Laws.{fits_anywhere}
use Rattle.dpcch_frame_read.proofs.slots.all_fit.Goals as goal
use Rattle.dpcch_frame_read.proofs.slots.all_fit.Goals.{then-not-fits, else-not-fits}

pub loop-k-init : goal.loop-k-init
loop-k-init c = λ e j h. absurd (not-suc-le-zero h)

pub overflow_mul-i : goal.overflow_mul-i
overflow_mul-i c = omega (arith, part_room c.loop-k.k 15 c.format_of-f.result.slot c.loop-k-test.true, sizes _ _ c.format_of-f.ensures)

pub overflow_add-j : goal.overflow_add-j
overflow_add-j c = omega (arith, part_room c.loop-k.k 15 c.format_of-f.result.slot c.loop-k-test.true, sizes _ _ c.format_of-f.ensures)

pub slice_bounds-fits-start : goal.slice_bounds-fits-start
slice_bounds-fits-start c = omega (arith, part_room c.loop-k.k 15 c.format_of-f.result.slot c.loop-k-test.true, sizes _ _ c.format_of-f.ensures, c.requires)

pub slice_bounds-fits-end : goal.slice_bounds-fits-end
slice_bounds-fits-end c = omega (arith, part_room c.loop-k.k 15 c.format_of-f.result.slot c.loop-k-test.true, sizes _ _ c.format_of-f.ensures, c.requires)

pub loop-k-preserved : goal.loop-k-preserved
loop-k-preserved c =
    let a = c.args in
    let k = c.loop-k.k in
    let w = c.format_of-f.result.slot in
    let test = c.loop-k-test.true in
    let inv = c.loop-k.invariant in
    elim c.if-not-fits.branch [
      | then-not-fits way ↦ rw way.good-is (λ e. absurd (false≢true e))
      | else-not-fits way ↦ rw way.good-is
          (λ e. below_more _ _ (inv e)
          (number_0
          (sym
          (digits_at a.format a.xs.now k w _ (sizes _ _ c.format_of-f.ensures).slot_is test c.requires
          (fits_anywhere a.format k (take (k * w + w - k * w) (drop (k * w) a.xs.now)) (k * w) c.fits.ensures way.if-not-fits.false)))))
    ]

pub returns : goal.returns
returns c = λ e. chain_end 15 _ (λ k h. c.loop-k.invariant e k (omega arith))
