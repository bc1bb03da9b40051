-- `sttd_values::encode_values` meets its contract: each turn writes one block more from the front on.
use mathlib.Core.Path.{◌≡◌, sym, ◌∙◌}
use Prim.Native.Nat.{◌+◌, ◌*◌}
use native.Mathlib.Omega.{arith}
use lib.IntN.{neg_ℤ}
use Rattle.run.proofs.Front.{front_none, front_all}
use Rattle.sttd.proofs.Laws.{sttd_length}
use Rattle.sttd.proofs.Runs.{read_in_range, values_block}
use Rattle.sttd_values.proofs.encode_values.Goals as goal

pub loop-k-init : goal.loop-k-init
loop-k-init c = front_none (sttd_length neg_ℤ _ ∙ c.requires.0 ∙ sym c.requires.1)

pub negated-requires : goal.negated-requires
negated-requires c =
    read_in_range c.args.input.now c.requires.0 c.requires.2 (4 * c.loop-k.k + 2) (omega arith)

pub negated-requires-in-loop-k : goal.negated-requires-in-loop-k
negated-requires-in-loop-k c =
    read_in_range c.args.input.now c.requires.0 c.requires.2 (4 * c.loop-k.k + 1) (omega arith)

pub loop-k-preserved : goal.loop-k-preserved
loop-k-preserved c =
    let step : 4 * c.loop-k.k + 4 ≡ 4 * (c.loop-k.k + 1) = omega arith in
    rw step at (values_block _ c.requires.0 c.requires.2 (omega arith) (omega arith) c.requires.1 c.loop-k.invariant c.negated.ensures c.negated-in-loop-k.ensures)

pub returns : goal.returns
returns c = front_all c.loop-k.invariant (omega arith)
