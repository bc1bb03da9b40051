-- `slt_lengths::slt_slot_lengths` meets its contract.
use Rattle.lengths.proofs.Exact.{packs, short}
use Rattle.slt_lengths.proofs.Laws.{length_packed}
use Rattle.slt_lengths.proofs.slt_slot_lengths.Goals as goal

pub returns : goal.returns
returns c = length_packed _ _ _ c.answer.ensures c.of_slot.ensures (packs.of_format 16 _ _ _) (short.of_slot _ _)
