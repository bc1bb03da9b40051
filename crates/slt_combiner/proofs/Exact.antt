-- The theorems of specs/Exact.antt.
-- Assumes nothing.
use lib.Dec.{lit<}
use Rattle.run.proofs.Chain.{one_outcome}
use Rattle.combiner.proofs.Exact.{packs}
use Rattle.slt_combiner.specs.Exact.{CombinerTells, CombinerOnce}
use Rattle.packed.proofs.Exact.{tells}

pub combiner_tells : CombinerTells
combiner_tells h1 h2 received results answer after p = tells _ p.answer_is (packs h1 h2 received _) (lit< tt)

pub combiner_once : CombinerOnce
combiner_once h1 h2 received results a b x y p r = (one_outcome p.answer_is r.answer_is, one_outcome p.results_is r.results_is)
