-- `lines::text::Text::digits` meets its contract.
use mathlib.Core.Path.{sym, ap}
use Prim.Native.Nat.{◌+◌}
use Rattle.lines.proofs.Words.{glyphs_length}
use Rattle.lines.proofs.Put.{wrote_lent}
use Rattle.lines.proofs.text.Text.digits.Goals as goal

pub returns-clause-wrote : goal.returns-clause-wrote
returns-clause-wrote c = wrote_lent _ _ _ _ _ (ap (λ n. c.args.self.now.end + n) (sym (glyphs_length _))) c.spell.ensures
