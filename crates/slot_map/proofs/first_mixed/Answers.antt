-- `slot_map::first_mixed` meets its contract: no digit is of another kind, or the first that is.
use mathlib.Core.Path.{sym, ◌∙◌}
use Rattle.run.proofs.Passing.{all_every}
use Rattle.run.proofs.Places.{position_none}
use Rattle.slot.specs.Rule.{tfci_stands}
use Rattle.slot.proofs.Laws.{mixed_opposite}
use Rattle.slot_map.proofs.first_mixed.Goals as goal

pub returns-then-is_tfci : goal.returns-then-is_tfci
returns-then-is_tfci c =
    let s = c.args.s.now in
    position_none _ (tfci_stands s) 0 s (mixed_opposite s) (all_every _ _ (sym c.is_tfci.ensures ∙ c.if-is_tfci.true))
