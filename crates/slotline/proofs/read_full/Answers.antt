-- `read_full`: what is read stands behind what was read before.
use Rattle.std.proofs.Common.{rules, ◌-◌, length}
use Rattle.slotline.proofs.Spending.{filled_more}
use Rattle.slotline.proofs.read_full.Goals as goal

pub loop-done-preserved : goal.loop-done-preserved
loop-done-preserved g c =
    let inv = c.loop-done.invariant in
    record {
      kept = search rules;
      inside = search rules;
      given = filled_more _ _ _ c.loop-done.done (length c.loop-done.buffer - c.loop-done.done) c.in_ok-n.n c.loop-done.buffer c.read.new.buf inv.inside
          c.in_ok-n.ensures.bound.0 inv.given c.in_ok-n.ensures.bytes.0;
    }
