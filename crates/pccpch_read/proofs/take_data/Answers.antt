-- `pccpch_read::take_data` meets its contract: each turn copies one slot's digits from the frame.
use mathlib.Core.Path.{sym, ◌∙◌}
use native.Mathlib.Omega.{arith}
use Rattle.run.proofs.Front.{front_none, front_all}
use Rattle.pccpch.proofs.Laws.{data_length}
use Rattle.pccpch_read.proofs.Laws.{slot_taken}
use Rattle.pccpch_read.proofs.take_data.Goals as goal

pub loop-slot-init : goal.loop-slot-init
loop-slot-init c = front_none (data_length _ ∙ sym c.requires.1)

pub loop-slot-preserved : goal.loop-slot-preserved
loop-slot-preserved c =
    slot_taken _ c.requires.0 _ c.loop-slot-test.true c.requires.1 c.loop-slot.invariant c.copy.ensures

pub returns : goal.returns
returns c = front_all c.loop-slot.invariant (omega arith)
