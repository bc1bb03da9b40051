use Rattle.run.proofs.Front.{Front}
use Rattle.lines.specs.Text.{glyphs}
use Rattle.lines.proofs.text.spell.Given as goal

abbrev pub invariant-loop-i : goal.invariant-loop-i
invariant-loop-i l = Front (glyphs l.digits) l.initial.out l.out l.i
