-- `slot::sizes_in` meets its contract: the fields of a sound row are no longer than its slot.
use mathlib.Core.Path.{refl}
use native.Mathlib.Omega.{arith}
use Rattle.slot.proofs.Laws.{data_small, tfci_small}
use Rattle.slot.proofs.sizes_in.Goals as goal

pub overflow_add-result : goal.overflow_add-result
overflow_add-result c = omega (arith, data_small _ c.requires)

pub returns : goal.returns
returns c =
    let s = c.requires in
    record { data_is = refl; tfci_is = refl; slot_is = refl; data_short = data_small _ s; tfci_short = tfci_small _ s; slot_short = s.short }
