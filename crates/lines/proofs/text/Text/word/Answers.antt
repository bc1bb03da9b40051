-- `lines::text::Text::word` meets its contract.
use mathlib.Core.Path.{◌∙◌}
use mathlib.Core.Path.{refl, sym}
use Prim.Native.Nat.{◌+◌}
use lib.ListN.{length}
use borrow.Rule.Slice.PartMut.{mid_len}
use Rattle.run.proofs.Lent.{part_width}
use native.Mathlib.Omega.{arith}
use Rattle.run.proofs.Over.{over_whole}
use Rattle.lines.proofs.Put.{wrote_lent}
use Rattle.lines.proofs.text.Text.word.Goals as goal

pub returns-clause-wrote : goal.returns-clause-wrote
returns-clause-wrote c =
    wrote_lent _ _ _ _ _ refl (c.copy.ensures ∙ over_whole _ _ (sym (mid_len c.args.self.now.end (c.args.self.now.end + length c.args.bytes.now) c.args.self.now.line.now (omega (arith, c.requires)) ∙ part_width _ _)))
