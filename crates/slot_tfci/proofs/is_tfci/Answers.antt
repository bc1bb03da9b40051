-- `slot_tfci::is_tfci` meets its contract: each arm looks at the digits of the width that it names.
use mathlib.Core.Path.{refl}
use Rattle.slot_tfci.proofs.Laws.{none_to_ask, tfci_told}
use Rattle.slot_tfci.proofs.is_tfci.Goals as goal

pub returns-then-n-eq0 : goal.returns-then-n-eq0
returns-then-n-eq0 c = none_to_ask _ _ c.if-n-eq0.true

pub returns-in-2 : goal.returns-in-2
returns-in-2 c = tfci_told c.args.s.now 2 c.in-2.is c.all_of_kind.ensures

pub returns-in-4 : goal.returns-in-4
returns-in-4 c = tfci_told c.args.s.now 4 c.in-4.is c.all_of_kind-in-4.ensures

pub returns-in-8 : goal.returns-in-8
returns-in-8 c = tfci_told c.args.s.now 8 c.in-8.is c.all_of_kind-in-8.ensures

pub returns-in-16 : goal.returns-in-16
returns-in-16 c = tfci_told c.args.s.now 16 c.in-16.is c.all_of_kind-in-16.ensures

pub returns-in_default : goal.returns-in_default
returns-in_default c = tfci_told c.args.s.now _ refl c.all_of_kind-in_default.ensures
