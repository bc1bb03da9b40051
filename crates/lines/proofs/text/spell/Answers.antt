-- `lines::text::spell` meets its contract: the laws of writing from the front.
use mathlib.Core.Path.{sym, ◌∙◌}
use native.Mathlib.Omega.{arith}
use Rattle.run.proofs.Front.{front_none, front_length, front_store, front_all}
use Rattle.lines.proofs.Words.{glyphs_length, glyphs_at}
use Rattle.lines.proofs.text.spell.Goals as goal

pub loop-i-init : goal.loop-i-init
loop-i-init c = front_none (glyphs_length _ ∙ c.requires)

pub bounds-out-i : goal.bounds-out-i
bounds-out-i c = omega (arith, front_length c.loop-i.invariant)

pub loop-i-preserved : goal.loop-i-preserved
loop-i-preserved c =
    front_store 0 c.loop-i.invariant (omega (arith, front_length c.loop-i.invariant)) (c.glyph.ensures ∙ sym (glyphs_at _ _ (omega arith)))

pub shape_of-out : goal.shape_of-out
shape_of-out c = front_length c.loop-i.invariant

pub returns : goal.returns
returns c = front_all c.loop-i.invariant (omega arith)
