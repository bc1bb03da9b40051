-- The theorems of specs/Exact.antt.
-- Assumes nothing.
use lib.Dec.{lit<}
use Rattle.run.proofs.Chain.{one_outcome}
use Rattle.desk.proofs.Exact.{packs}
use Rattle.packed.proofs.Exact.{tells}
use Rattle.slt_desk.specs.Exact.{DeskTells, DeskOnce}

pub desk_tells : DeskTells
desk_tells =
    record {
      serve = λ last heard available n values answer last-after after p. tells _ p.answer_is (packs.serve_narrow last n _) (lit< tt);
      to_aich_lem = λ timing answer p. tells _ p.answer_is (packs.timing_narrow timing) (packs.to_aich_small timing);
      to_message_lem = λ timing answer p. tells _ p.answer_is (packs.timing_narrow timing) (packs.to_message_small timing);
    }

pub desk_once : DeskOnce
desk_once =
    record {
      serve = λ last heard available n values a b k l x y p r.
          (one_outcome p.answer_is r.answer_is, one_outcome p.last_is r.last_is, one_outcome p.values_is r.values_is);
      to_aich_lem = λ timing a b p r. one_outcome p.answer_is r.answer_is;
      to_message_lem = λ timing a b p r. one_outcome p.answer_is r.answer_is;
    }
