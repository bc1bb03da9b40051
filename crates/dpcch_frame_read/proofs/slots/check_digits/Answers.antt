-- `dpcch_frame_read::slots::check_digits` meets its contract: slot by slot, up to the first that is refused.
use mathlib.Core.Path.{sym, ap, ◌∙◌}
use native.Mathlib.Nat.{not-suc-le-zero}
use native.Mathlib.Omega.{arith}
use borrow.Author.Count.{below_more}
use Rattle.run.specs.Verdict.{Verdict}
use Rattle.run.proofs.Answers.{handed, refuses}
use Rattle.run.proofs.Chain.{chain_end, chain_hit, number_0}
use Rattle.run.proofs.Parts.{part_room}
use Rattle.dpcch.proofs.Laws.{sizes}
use Rattle.dpcch.proofs.Frames.{digits_at}
use Rattle.dpcch_frame_read.proofs.slots.check_digits.Goals as goal

pub loop-k-init : goal.loop-k-init
loop-k-init c = λ j h. absurd (not-suc-le-zero h)

pub overflow_mul-i : goal.overflow_mul-i
overflow_mul-i c = omega (arith, part_room c.loop-k.k 15 c.format_of-f.result.slot c.loop-k-test.true, sizes _ _ c.format_of-f.ensures)

pub overflow_add-j : goal.overflow_add-j
overflow_add-j c = omega (arith, part_room c.loop-k.k 15 c.format_of-f.result.slot c.loop-k-test.true, sizes _ _ c.format_of-f.ensures)

pub slice_bounds-check-start : goal.slice_bounds-check-start
slice_bounds-check-start c = omega (arith, part_room c.loop-k.k 15 c.format_of-f.result.slot c.loop-k-test.true, sizes _ _ c.format_of-f.ensures, c.requires)

pub slice_bounds-check-end : goal.slice_bounds-check-end
slice_bounds-check-end c = omega (arith, part_room c.loop-k.k 15 c.format_of-f.result.slot c.loop-k-test.true, sizes _ _ c.format_of-f.ensures, c.requires)

pub overflow_cast-i : goal.overflow_cast-i
overflow_cast-i c = omega (arith, part_room c.loop-k.k 15 c.format_of-f.result.slot c.loop-k-test.true, sizes _ _ c.format_of-f.ensures)

pub returns-in_err-check : goal.returns-in_err-check
returns-in_err-check c =
    let refusal = c.in_err-check.field-0.0 in
    let at-k = digits_at _ _ _ _ _ (sizes _ _ c.format_of-f.ensures).slot_is c.loop-k-test.true c.requires c.in_err-check.ensures in
    handed _ _ c.from_residual.ensures.1 ∙ at-k
    ∙ sym (chain_hit 15 _ _ c.loop-k-test.true c.loop-k.invariant (λ e. refuses refusal refusal.place (ap (λ (v : Verdict). v.number) at-k ∙ e)))

pub loop-k-preserved : goal.loop-k-preserved
loop-k-preserved c =
    let at-k = digits_at _ _ _ _ _ (sizes _ _ c.format_of-f.ensures).slot_is c.loop-k-test.true c.requires c.in_ok-check.ensures in
    below_more _ _ c.loop-k.invariant (number_0 (sym at-k))

pub returns : goal.returns
returns c = sym (chain_end 15 _ (λ k h. c.loop-k.invariant k (omega arith)))
