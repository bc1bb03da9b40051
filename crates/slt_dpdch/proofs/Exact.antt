-- The theorems of specs/Exact.antt.
-- Assumes nothing.
use lib.Dec.{lit<}
use Rattle.run.proofs.Chain.{one_outcome}
use Rattle.dpdch.proofs.Exact.{packs}
use Rattle.slt_dpdch.specs.Exact.{DpdchTells, DpdchOnce}
use Rattle.packed.proofs.Exact.{tells}

pub dpdch_tells : DpdchTells
dpdch_tells =
    record {
      map = λ format d out answer after p. tells _ p.answer_is (packs.map_narrow format d _) (lit< tt);
      read = λ format xs d answer after p. tells _ p.answer_is (packs.read_narrow format xs _) (lit< tt);
      frame_map = λ format d out answer after p. tells _ p.answer_is (packs.frame_map_narrow format d _) (lit< tt);
      frame_read = λ format xs d answer after p. tells _ p.answer_is (packs.frame_read_narrow format xs _) (lit< tt);
    }

pub dpdch_once : DpdchOnce
dpdch_once =
    record {
      map = λ format d out a b x y p r. (one_outcome p.answer_is r.answer_is, one_outcome p.out_is r.out_is);
      read = λ format xs d a b x y p r. (one_outcome p.answer_is r.answer_is, one_outcome p.data_is r.data_is);
      frame_map = λ format d out a b x y p r. (one_outcome p.answer_is r.answer_is, one_outcome p.out_is r.out_is);
      frame_read = λ format xs d a b x y p r. (one_outcome p.answer_is r.answer_is, one_outcome p.data_is r.data_is);
    }
