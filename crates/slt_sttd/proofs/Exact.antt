-- The theorems of specs/Exact.antt.
-- Assumes nothing.
use mathlib.Core.List.{List}
use mathlib.Core.Path.{◌≡◌}
use Prim.Native.Nat.{ℕ, ◌<◌, ◌≤◌}
use borrow.Author.Tests.{leb-true, le-leb, lt-leb}
use lib.ListN.{length}
use Rattle.run.specs.Verdicts.{refused, or_else, unless, Narrow}
use Rattle.sttd.specs.Outcome.{digits_verdict}
use Rattle.run.proofs.Chain.{check_narrow}
use lib.Dec.{lit<}
use Rattle.run.proofs.Chain.{one_outcome}
use Rattle.sttd.proofs.Exact.{packs}
use Rattle.slt_sttd.specs.Outcome.{short_verdict}
use Rattle.slt_sttd.specs.Exact.{SttdTells, SttdOnce}
use Rattle.packed.proofs.Exact.{tells}

-- where the run is short enough, a place fits
pub short_narrow : (input : List ℕ) (out_length : ℕ) → Narrow (short_verdict input out_length)
short_narrow input out_length = check_narrow _ 3 0 _ (lit< tt) (lit< tt) (lit< tt) (λ e. packs.digits_narrow input out_length (leb-true _ _ e))

-- a run that is too long, and one that is not
pub too_long : (input : List ℕ) (out_length : ℕ) → 4294967295 < length input → short_verdict input out_length ≡ refused 3 0
unfolding or_else unless
too_long input out_length h = rw (lt-leb (length input) 4294967295 h)

pub short_enough : (input : List ℕ) (out_length : ℕ) → length input ≤ 4294967295 → short_verdict input out_length ≡ digits_verdict input out_length
unfolding or_else unless
short_enough input out_length h = rw (le-leb (length input) 4294967295 h)

pub sttd_tells : SttdTells
sttd_tells =
    record {
      digits = λ input out answer after p. tells _ p.answer_is (short_narrow input _) (lit< tt);
      values = λ input out answer after p. tells _ p.answer_is (packs.values_narrow input _) (lit< tt);
    }

pub sttd_once : SttdOnce
sttd_once =
    record {
      digits = λ input out a b x y p r. (one_outcome p.answer_is r.answer_is, one_outcome p.out_is r.out_is);
      values = λ input out a b x y p r. (one_outcome p.answer_is r.answer_is, one_outcome p.out_is r.out_is);
    }
