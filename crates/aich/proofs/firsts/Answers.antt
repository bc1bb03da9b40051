-- `aich::firsts` meets its contract: each turn stores one value of a pair.
use mathlib.Core.Path.{◌∙◌}
use native.Mathlib.Omega.{arith}
use lib.IntN.{pos}
use mir.Syntax.{w32}
use mir.Facts.{to_z-of_z}
use Rattle.run.proofs.Front.{front_none, front_length, front_store}
use Rattle.aich.proofs.Laws.{firsts_length}
use Rattle.aich.proofs.firsts.Goals as goal

pub loop-k-init : goal.loop-k-init
loop-k-init c = front_none (firsts_length _)

pub loop-k-preserved : goal.loop-k-preserved
loop-k-preserved c =
    let l = front_length c.loop-k.invariant in
    front_store (pos 0) c.loop-k.invariant (omega (arith, l, c.loop-k-test.true)) (to_z-of_z {w = w32} (record { sfits = c.value_of.type_inv }) ∙ c.value_of.ensures)
