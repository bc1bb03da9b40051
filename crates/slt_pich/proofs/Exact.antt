-- The theorems of specs/Exact.antt.
-- Assumes nothing.
use lib.Dec.{lit<}
use Rattle.run.proofs.Chain.{one_outcome}
use Rattle.pich.proofs.Exact as pich-exact
use Rattle.slt_pich.specs.Exact.{PichTells, PichOnce}
use Rattle.packed.proofs.Exact.{tells}

pub pich_tells : PichTells
pich_tells =
    record {
      q = λ np pi sfn answer p. tells _ p.answer_is ((pich-exact.packs).q_narrow np (record { 0 = pi }) sfn) (pich-exact.q_fits np (record { 0 = pi }) sfn);
      map = λ np indicators frame answer after p. tells _ p.answer_is ((pich-exact.packs).map_narrow np indicators _) (lit< tt);
      read = λ np frame indicators answer after p. tells _ p.answer_is ((pich-exact.packs).read_narrow np frame _) (lit< tt);
    }

pub pich_once : PichOnce
pich_once =
    record {
      q = λ np pi sfn a b p r. one_outcome p.answer_is r.answer_is;
      map = λ np indicators frame a b x y p r. (one_outcome p.answer_is r.answer_is, one_outcome p.frame_is r.frame_is);
      read = λ np frame indicators a b x y p r. (one_outcome p.answer_is r.answer_is, one_outcome p.indicators_is r.indicators_is);
    }
