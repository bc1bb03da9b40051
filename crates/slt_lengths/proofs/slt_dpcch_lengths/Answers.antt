-- `slt_lengths::slt_dpcch_lengths` meets its contract.
use Rattle.lengths.proofs.Exact.{packs, short}
use Rattle.slt_lengths.proofs.Laws.{length_packed}
use Rattle.slt_lengths.proofs.slt_dpcch_lengths.Goals as goal

pub returns : goal.returns
returns c = length_packed _ _ _ c.answer.ensures c.of_dpcch.ensures (packs.of_format 3 _ _ _) (short.of_dpcch _ _)
