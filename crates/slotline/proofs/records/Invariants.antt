-- `records` ends: each turn leaves fewer records to be run.
use Rattle.slotline.specs.Sound.{Buffer, Sound}
use Rattle.slotline.specs.Input.{Spends}
use Rattle.slotline.proofs.records.Given as goal

abbrev pub invariant-loop-s : goal.invariant-loop-s
invariant-loop-s g l = record {
  sound : Sound l.s;
  window : Buffer l.window;
  out : Buffer l.out;
  spent : Spends (g.R.Read.remaining l.initial.input) (g.R.Read.remaining l.input) l.initial.s.unread l.s.unread;
}

abbrev pub decreases-loop-s : goal.decreases-loop-s
decreases-loop-s g l = l.s.left
