-- `pccpch_read::check_kinds` meets its contract: the scan's laws part by part, two parts to a slot.
use mathlib.Core.Path.{◌≡◌, sym, ◌∙◌}
use Prim.Native.Nat.{◌*◌}
use native.Mathlib.Omega.{arith}
use borrow.Author.Count.{below_none}
use Rattle.run.proofs.Chain.{each_pass}
use Rattle.pccpch.specs.Outcome.{right_kind}
use Rattle.pccpch_read.proofs.Laws.{starts_wrong, starts_right, sounds_wrong, sounds_right}
use Rattle.pccpch_read.proofs.check_kinds.Goals as goal

pub loop-slot-init : goal.loop-slot-init
loop-slot-init c = below_none _

pub returns-in-Some : goal.returns-in-Some
returns-in-Some c =
    c.not_given.ensures
    ∙ starts_wrong c.args.antenna1.now c.requires.0 c.requires.1 c.loop-slot.slot c.loop-slot-test.true c.loop-slot.invariant c.other.ensures c.in-Some.i c.in-Some.is

pub returns-in-Some-above : goal.returns-in-Some-above
returns-in-Some-above c =
    let begun = starts_right c.args.antenna1.now c.requires.0 c.requires.1 c.loop-slot.slot c.loop-slot-test.true c.loop-slot.invariant c.other.ensures c.in_default.is in
    c.not_given-in-Some-above.ensures
    ∙ sounds_wrong c.args.antenna1.now c.requires.0 c.requires.1 c.loop-slot.slot c.loop-slot-test.true begun c.above.ensures c.in-Some-above.j c.in-Some-above.is

pub loop-slot-preserved : goal.loop-slot-preserved
loop-slot-preserved c =
    let begun = starts_right c.args.antenna1.now c.requires.0 c.requires.1 c.loop-slot.slot c.loop-slot-test.true c.loop-slot.invariant c.other.ensures c.in_default.is in
    sounds_right c.args.antenna1.now c.requires.0 c.requires.1 c.loop-slot.slot c.loop-slot-test.true begun c.above.ensures c.in_default-above.is

pub returns : goal.returns
returns c =
    let all : 20 * c.loop-slot.slot ≡ 300 = omega arith in
    sym (each_pass 0 9 (right_kind c.args.antenna1.now) 300 (rw all at c.loop-slot.invariant))
