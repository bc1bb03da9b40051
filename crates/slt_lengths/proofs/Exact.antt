-- The theorems of specs/Exact.antt.
-- Assumes nothing.
use lib.Dec.{lit<}
use Rattle.run.proofs.Chain.{one_outcome, leaves_small}
use Rattle.lengths.proofs.Exact.{packs, short}
use Rattle.packed.proofs.Exact.{tells}
use Rattle.slt_lengths.specs.Exact.{LengthsTell, LengthsOnce}

pub lengths_tell : LengthsTell
lengths_tell =
    record {
      of_slot = λ format run answer p. tells _ p.answer_is (packs.of_format 16 format _ run) (leaves_small _ _ 65536 (λ _. short.of_slot format run) (lit< tt));
      of_frame = λ format run answer p. tells _ p.answer_is (packs.of_format 16 format _ run) (leaves_small _ _ 65536 (λ _. short.of_frame format run) (lit< tt));
      of_compressed = λ format kind first missing run answer p.
          tells _ p.answer_is (packs.of_gap kind format first missing _ run) (leaves_small _ _ 65536 (λ _. short.of_compressed kind format missing run) (lit< tt));
      of_dpdch = λ format run answer p. tells _ p.answer_is (packs.of_format 6 format _ run) (leaves_small _ _ 65536 (λ _. short.of_dpdch format run) (lit< tt));
      of_dpdch_frame = λ format run answer p. tells _ p.answer_is (packs.of_format 6 format _ run) (leaves_small _ _ 65536 (λ _. short.of_dpdch_frame format run) (lit< tt));
      of_dpcch = λ format run answer p. tells _ p.answer_is (packs.of_format 3 format _ run) (leaves_small _ _ 65536 (λ _. short.of_dpcch format run) (lit< tt));
      of_dpcch_frame = λ format run answer p. tells _ p.answer_is (packs.of_format 3 format _ run) (leaves_small _ _ 65536 (λ _. short.of_dpcch_frame format run) (lit< tt));
      of_hspdsch = λ format run answer p. tells _ p.answer_is (packs.of_format 1 format _ run) (leaves_small _ _ 65536 (λ _. short.of_hspdsch format run) (lit< tt));
    }

pub lengths_once : LengthsOnce
lengths_once head runs run a b p q = one_outcome p.answer_is q.answer_is
