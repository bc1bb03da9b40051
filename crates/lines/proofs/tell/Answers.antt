-- `lines::tell` meets its contract.
use mathlib.Core.Path.{sym}
use Rattle.run.proofs.Chain.{number_0}
use Rattle.lines.proofs.Answers.{told_refused}
use Rattle.lines.proofs.Records.{prints_left, prints_done}
use Rattle.lines.proofs.Checks.{room_done}
use Rattle.lines.proofs.tell.Goals as goal

pub returns-in_err-require : goal.returns-in_err-require
returns-in_err-require c =
    let e = c.in_err-require.ensures in
    rw (told_refused _ _ c.from_residual.ensures.1) (record { verdict_is = e; prints = prints_left _ _ _ e })

pub refusal_line-requires : goal.refusal_line-requires
refusal_line-requires c = room_done _ _ (number_0 (sym c.in_ok-require.ensures))

pub returns : goal.returns
returns c =
    let e = c.in_ok-require.ensures in
    record { verdict_is = e; prints = prints_done _ (number_0 (sym e)) c.refusal_line.ensures }
