-- `slt_wake::slt_wake_run` meets its contract: the run's own answer, packed, which fits the fields, and the three numbers afterwards behind their pointers.
use mathlib.Core.Path.{ap}
use lib.Dec.{lit<}
use Rattle.wake.specs.declared.Tally.{Tally}
use Rattle.wake.proofs.Exact.{packs}
use Rattle.packed.proofs.Exact.{fitted}
use Rattle.slt_wake.proofs.slt_wake_run.Goals as goal

pub returns : goal.returns
returns c =
    let over = c.run.ensures in
    record {
      answer_is = fitted 0 c.done-answer.ensures over.verdict_is (packs.run_narrow _ _ _ _) (lit< tt);
      read_is = ap (λ (t : Tally). t.read) over.tally_is;
      woke_is = ap (λ (t : Tally). t.woke) over.tally_is;
      next_is = ap (λ (t : Tally). t.next) over.tally_is;
    }
