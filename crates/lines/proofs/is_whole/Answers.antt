-- `lines::is_whole` meets its contract.
use mathlib.Core.Path.{sym, ◌∙◌}
use mathlib.Core.Bool.{false≢true}
use Rattle.lines.proofs.Records.{not_short, whole_parts}
use Rattle.lines.proofs.is_whole.Goals as goal
use Rattle.lines.proofs.is_whole.Goals.{then-s, else-s}

pub returns-then-r-lt2 : goal.returns-then-r-lt2
returns-then-r-lt2 c = sym (not_short _ c.if-r-lt2.true)

pub returns-then-is_ok : goal.returns-then-is_ok
returns-then-is_ok c = elim c.if-s.branch [
  | then-s w ↦ sym (whole_parts _ _ c.shape_of-s.ensures ∙ rw (w.if-s.true, sym w.is_ok.ensures.value, sym w.value-is, c.if-is_ok.true))
  | else-s w ↦ absurd (false≢true (sym w.if-s.false ∙ sym w.value-is ∙ c.if-is_ok.true))
]

pub returns-else-is_ok : goal.returns-else-is_ok
returns-else-is_ok c = elim c.if-s.branch [
  | then-s w ↦ sym (whole_parts _ _ c.shape_of-s.ensures ∙ rw (w.if-s.true, sym w.is_ok.ensures.value, sym w.value-is, c.if-is_ok.false))
  | else-s w ↦ sym (whole_parts _ _ c.shape_of-s.ensures ∙ rw (w.if-s.false, c.if-is_ok.false))
]
