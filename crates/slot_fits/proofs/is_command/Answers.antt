-- `slot_fits::is_command` meets its contract: each arm compares the digits of the width that it names.
use mathlib.Core.Path.{refl}
use native.Mathlib.Omega.{arith}
use Rattle.slot_tfci.proofs.Laws.{none_to_ask}
use Rattle.slot_fits.proofs.Laws.{command_told, command_silent}
use Rattle.slot_fits.proofs.is_command.Goals as goal

pub returns-then-n-eq0 : goal.returns-then-n-eq0
returns-then-n-eq0 c = none_to_ask _ _ c.if-n-eq0.true

pub returns-then-v-eq-DTX : goal.returns-then-v-eq-DTX
returns-then-v-eq-DTX c = command_silent c.args.s.now (omega arith) c.if-v-eq-DTX.true

pub returns-in-2 : goal.returns-in-2
returns-in-2 c = command_told c.args.s.now 2 c.in-2.is c.if-v-eq-DTX.false c.all_are.ensures

pub returns-in-4 : goal.returns-in-4
returns-in-4 c = command_told c.args.s.now 4 c.in-4.is c.if-v-eq-DTX.false c.all_are-in-4.ensures

pub returns-in-8 : goal.returns-in-8
returns-in-8 c = command_told c.args.s.now 8 c.in-8.is c.if-v-eq-DTX.false c.all_are-in-8.ensures

pub returns-in-16 : goal.returns-in-16
returns-in-16 c = command_told c.args.s.now 16 c.in-16.is c.if-v-eq-DTX.false c.all_are-in-16.ensures

pub returns-in_default : goal.returns-in_default
returns-in_default c = command_told c.args.s.now _ refl c.if-v-eq-DTX.false c.all_are-in_default.ensures
