-- `keep` leaves what is left of the window at its front.
use Rattle.std.proofs.Common.{refl, ◌∙◌}
use Rattle.slotline.proofs.Laws.{kept_part}
use Rattle.slotline.proofs.keep.Goals as goal

pub returns : goal.returns
returns c = (refl, c.copy_within.ensures.after ∙ kept_part _ _ _ c.requires.0 c.requires.1)
