-- `slt_lengths::slt_compressed_lengths` meets its contract.
use Rattle.lengths.proofs.Exact.{packs, short}
use Rattle.slt_lengths.proofs.Laws.{length_packed}
use Rattle.slt_lengths.proofs.slt_compressed_lengths.Goals as goal

pub returns : goal.returns
returns c = length_packed _ _ _ c.answer.ensures c.of_compressed.ensures (packs.of_gap _ _ _ _ _ _) (short.of_compressed _ _ _ _)
