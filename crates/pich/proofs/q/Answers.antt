-- `pich::q` meets its contract.
use mathlib.Core.Path.{sym}
use Rattle.run.proofs.Answers.{written}
use Rattle.run.proofs.Chain.{number_0}
use Rattle.pich.proofs.Laws.{asked, q_refused}
use Rattle.pich.proofs.q.Goals as goal

pub returns-in_err-check : goal.returns-in_err-check
returns-in_err-check c = q_refused _ _ _ _ _ c.from_residual.ensures.1 c.in_err-check.ensures

pub q_of-requires : goal.q_of-requires
q_of-requires c =
    let a = asked _ _ _ (number_0 (sym c.in_ok-check.ensures)) in
    (a.np_ok, a.pi_ok, a.sfn_ok)

pub returns : goal.returns
returns c = record { verdict_is = c.in_ok-check.ensures; q_is = written _ _ c.in_ok-check.ensures c.q_of.ensures }
