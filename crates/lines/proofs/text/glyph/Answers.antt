-- `lines::text::glyph` meets its contract.
use borrow.Author.Tests.{lt-ltb, le-ltb}
use Rattle.lines.specs.Text.{glyph}
use Rattle.lines.proofs.text.glyph.Goals as goal

pub returns-then-digit-lt2 : goal.returns-then-digit-lt2
unfolding glyph
returns-then-digit-lt2 c = rw (lt-ltb _ _ c.if-digit-lt2.true)

pub returns-else-digit-lt2 : goal.returns-else-digit-lt2
unfolding glyph
returns-else-digit-lt2 c = rw (le-ltb _ _ c.if-digit-lt2.false)
