-- `bank_read::room` meets its contract.
use mathlib.Core.Path.{◌≡◌, sym, ap, ◌∙◌}
use native.Mathlib.Omega.{arith}
use lib.ListN.{length}
use Prim.Native.Nat.{ℕ, ◌-◌}
use Rattle.run.proofs.Answers.{handed, left, written}
use Rattle.bank.specs.Outcome.{room_verdict}
use Rattle.bank.proofs.Reading.{bank_holds, holds_fits}
use Rattle.bank.proofs.Told.{total_ok, total_done, total_refused, counted_err}
use Rattle.bank_read.proofs.room.Goals as goal

pub returns-in_err-total : goal.returns-in_err-total
unfolding room_verdict
returns-in_err-total c =
    let v = total_refused _ c.in_err-total.ensures in
    record { verdict_is = handed _ _ c.from_residual.ensures.1 ∙ v; count_is = counted_err _ _ _ c.from_residual.ensures.1 v }

pub overflow_sub-result : goal.overflow_sub-result
overflow_sub-result c = let t = total_ok _ c.in_ok-total.ensures in let n = t.1 in omega (arith, holds_fits (bank_holds _ t.0))

pub returns : goal.returns
unfolding room_verdict
returns c =
    let v = total_done _ c.in_ok-total.ensures in
    record { verdict_is = v; count_is = written _ _ v (ap (λ (n : ℕ). length c.args.bank.now - n) (total_ok _ c.in_ok-total.ensures).1) }
