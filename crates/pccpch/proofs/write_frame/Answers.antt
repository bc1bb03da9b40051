-- `pccpch::write_frame` meets its contract: each turn writes one slot of the local frame, which is copied whole at the end.
use mathlib.Core.Path.{◌≡◌, sym, ap, ◌∙◌}
use Prim.Native.Nat.{◌*◌}
use native.Mathlib.Omega.{arith}
use lib.ListN.{length, length-set}
use lib.Seq.{length-take-le}
use Rattle.run.proofs.Over.{over_whole}
use Rattle.pccpch.proofs.Laws.{frame_length, frame_starts, slot_written, frame_ends, written_length, lent_whole}
use Rattle.pccpch.proofs.write_frame.Goals as goal

pub loop-slot-init : goal.loop-slot-init
loop-slot-init c = frame_starts c.args.digits.now

pub slice_bounds-frame-end : goal.slice_bounds-frame-end
slice_bounds-frame-end c = simp length-set (omega (arith, written_length _ c.loop-slot.invariant))

pub loop-slot-preserved : goal.loop-slot-preserved
loop-slot-preserved c =
    slot_written _ c.requires.0 _ c.loop-slot-test.true c.loop-slot.invariant c.copy.ensures

pub slice_bounds-copy-end-3 : goal.slice_bounds-copy-end-3
slice_bounds-copy-end-3 c = sym (written_length _ c.loop-slot.invariant)

pub returns : goal.returns
returns c =
    let all : 20 * c.loop-slot.slot ≡ 300 = omega arith in
    let whole = frame_ends _ (rw all at c.loop-slot.invariant) in
    let lent = length-take-le 300 c.args.antenna.now (omega arith) in
    lent_whole c.args.antenna.now _ c.requires.1 ∙ c.copy-2.ensures ∙ over_whole _ _ (ap length whole ∙ frame_length _ ∙ sym lent) ∙ whole
