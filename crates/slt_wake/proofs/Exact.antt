-- The theorems of specs/Exact.antt.
-- Assumes nothing.
use lib.Dec.{lit<}
use Rattle.run.proofs.Chain.{one_outcome}
use Rattle.wake.proofs.Exact.{packs}
use Rattle.packed.proofs.Exact.{tells}
use Rattle.slt_wake.specs.Exact.{WakeTells, WakeOnce}

pub wake_tells : WakeTells
wake_tells =
    record {
      run = λ np pi frames read woke next answer x y z p. tells _ p.answer_is (packs.run_narrow np pi _ frames) (lit< tt);
      step = λ t np pi frame answer after p. tells _ p.answer_is (packs.frame_narrow np pi t frame) (lit< tt);
    }

pub wake_once : WakeOnce
wake_once =
    record {
      run = λ np pi frames read woke next a b x y z r s u p q. (
        one_outcome p.answer_is q.answer_is,
        one_outcome p.read_is q.read_is,
        one_outcome p.woke_is q.woke_is,
        one_outcome p.next_is q.next_is,
      );
      step = λ t np pi frame a b x y p q. (one_outcome p.answer_is q.answer_is, one_outcome p.tally_is q.tally_is);
    }
