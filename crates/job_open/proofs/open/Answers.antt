-- `job_open::open` meets its contract.
use mathlib.Core.Path.{sym, ap}
use Prim.Native.Nat.{ℕ, ◌+◌}
use native.Mathlib.Omega.{arith}
use Rattle.run.proofs.Answers.{written}
use Rattle.run.proofs.Chain.{number_0}
use Rattle.job.proofs.Checks.{width_small, open_room, prints_as}
use Rattle.job.proofs.Headed.{open_left, never}
use Rattle.job_open.proofs.open.Goals as goal

pub returns-in_err-check_open : goal.returns-in_err-check_open
returns-in_err-check_open c = open_left _ _ _ _ c.from_residual.ensures.1 c.in_err-check_open.ensures

-- the line has room, so the header's is not refused
pub returns-in_err-length : goal.returns-in_err-length
returns-in_err-length c = absurd (never _ c.in_err-length.ensures.verdict_is (open_room _ _ (number_0 (sym c.in_ok-check_open.ensures))))

pub overflow_add-result : goal.overflow_add-result
overflow_add-result c = let w = width_small c.byte_at-version.result in rw c.width_of.ensures (omega arith)

pub returns : goal.returns
returns c =
    let e = c.in_ok-check_open.ensures in
    let h = number_0 (sym e) in
    let version = c.byte_at-version.ensures in
    let count = rw version at c.count_in-count.ensures in
    record {
      verdict_is = e;
      limit_is = written _ 0 e (rw version at c.limit_of.ensures);
      count_is = written _ 0 e count;
      next_is = written _ 0 e (ap (λ (k : ℕ). 5 + k) (rw version at c.width_of.ensures));
      prints = prints_as _ (open_room _ _ h) h (rw (version, count) at c.in_ok-length.ensures.prints);
    }
