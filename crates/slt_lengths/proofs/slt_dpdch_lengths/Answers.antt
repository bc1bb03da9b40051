-- `slt_lengths::slt_dpdch_lengths` meets its contract.
use Rattle.lengths.proofs.Exact.{packs, short}
use Rattle.slt_lengths.proofs.Laws.{length_packed}
use Rattle.slt_lengths.proofs.slt_dpdch_lengths.Goals as goal

pub returns : goal.returns
returns c = length_packed _ _ _ c.answer.ensures c.of_dpdch.ensures (packs.of_format 6 _ _ _) (short.of_dpdch _ _)
