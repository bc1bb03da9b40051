-- `dpcch_frame_map::slots::are_good` meets its contract.
use mathlib.Core.Path.{sym, ◌∙◌}
use mathlib.Core.Bool.{false≢true}
use Rattle.dpcch_frame_map.proofs.slots.are_good.Goals as goal
use Rattle.dpcch_frame_map.proofs.slots.are_good.Goals.{then-are_bits, else-are_bits}

pub returns-then-are_bits-2 : goal.returns-then-are_bits-2
returns-then-are_bits-2 c =
    λ good. elim c.if-are_bits.branch [
      | then-are_bits way ↦ record {
        tfci_bits = way.are_bits-then-are_bits.ensures (sym way.value-is ∙ c.if-are_bits-2.true);
        fbi_bits = c.are_bits-then-are_bits-2.ensures good;
        commands_bits = c.are_bits.ensures way.if-are_bits.true;
      }
      | else-are_bits way ↦ absurd (false≢true (sym way.if-are_bits.false ∙ sym way.value-is ∙ c.if-are_bits-2.true))
    ]
