-- `lines::text::Text::values` meets its contract: a turn puts one value more.
use mathlib.Core.Path.{refl, ◌∙◌}
use native.Mathlib.Omega.{arith}
use lib.Seq.{take_all}
use Rattle.lines.specs.Text.{spaced}
use Rattle.lines.proofs.Put.{wrote_length, wrote_none}
use Rattle.lines.proofs.Values.{value_back, spaced_room, spaced_then}
use Rattle.lines.proofs.text.Text.values.Goals as goal

pub loop-v-init : goal.loop-v-init
unfolding spaced
loop-v-init c = (wrote_none _ _, refl)

pub byte-requires : goal.byte-requires
byte-requires c =
    omega (arith, c.loop-v-test.true, (spaced_room _ _ (omega arith) c.requires.1 c.requires.0 c.loop-v.invariant.0).0)

pub signed-requires : goal.signed-requires
signed-requires c =
    let room = spaced_room _ _ (omega arith) c.requires.1 c.requires.0 c.loop-v.invariant.0 in
    let ok = c.requires.0 c.loop-v.v-index c.loop-v-test.true in
    let w = c.byte.ensures.wrote in
    (rw (value_back _ ok) ok, omega (arith, c.loop-v-test.true, room.0, w.ends, wrote_length (omega (arith, c.loop-v-test.true, room.0)) w))

pub loop-v-preserved : goal.loop-v-preserved
loop-v-preserved c =
    (spaced_then _ _ c.loop-v-test.true c.requires.1 c.requires.0 c.loop-v.invariant.0 c.byte.ensures.wrote c.signed.ensures.wrote, c.signed.ensures.lent ∙ c.byte.ensures.lent ∙ c.loop-v.invariant.1)

pub returns-clause-wrote : goal.returns-clause-wrote
returns-clause-wrote c =
    let all = take_all c.loop-v.v-index c.args.values.now (omega arith) in
    rw all at c.loop-v.invariant.0
