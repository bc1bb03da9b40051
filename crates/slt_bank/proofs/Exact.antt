-- The theorems of specs/Exact.antt.
-- Assumes nothing.
use lib.Dec.{lit<}
use lib.ListN.{length}
use Rattle.run.proofs.Chain.{one_outcome}
use Rattle.bank.proofs.Exact.{packs}
use Rattle.slt_bank.specs.Exact.{BankTells, BankOnce}
use Rattle.packed.proofs.Exact.{tells}

pub bank_tells : BankTells
bank_tells =
    record {
      empty = λ bank answer after p. tells _ p.answer_is (packs.empty_narrow (length bank)) (lit< tt);
      store = λ bank number slot answer after p. tells _ p.answer_is (packs.store_narrow bank number slot) (lit< tt);
      fetch = λ bank number out answer after p. tells _ p.answer_is (packs.fetch_narrow bank number (length out)) (lit< tt);
      drop = λ bank number answer after p. tells _ p.answer_is (packs.drop_narrow bank number) (lit< tt);
      length_of = λ bank number answer p. tells _ p.answer_is (packs.drop_narrow bank number) (packs.length_small bank number);
      room = λ bank answer p. tells _ p.answer_is (packs.room_narrow bank) (packs.room_small bank);
    }

pub bank_once : BankOnce
bank_once =
    record {
      empty = λ bank a b x y p r. (one_outcome p.answer_is r.answer_is, one_outcome p.bank_is r.bank_is);
      store = λ bank number slot a b x y p r. (one_outcome p.answer_is r.answer_is, one_outcome p.bank_is r.bank_is);
      fetch = λ bank number out a b x y p r. (one_outcome p.answer_is r.answer_is, one_outcome p.out_is r.out_is);
      drop = λ bank number a b x y p r. (one_outcome p.answer_is r.answer_is, one_outcome p.bank_is r.bank_is);
      length_of = λ bank number a b p r. one_outcome p.answer_is r.answer_is;
      room = λ bank a b p r. one_outcome p.answer_is r.answer_is;
    }
