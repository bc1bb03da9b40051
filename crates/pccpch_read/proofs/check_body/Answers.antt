-- `pccpch_read::check_body` meets its contract: the checks in their order. Antenna 1's places count from 0, antenna 2's from 300.
use Rattle.run.proofs.Answers.{stops, goes_on}
use Rattle.pccpch.specs.Outcome.{read_body}
use Rattle.pccpch_read.proofs.Laws.{compared}
use Rattle.pccpch_read.proofs.check_body.Goals as goal

pub returns-in_err-check_kinds : goal.returns-in_err-check_kinds
unfolding read_body
returns-in_err-check_kinds c = stops _ _ _ c.from_residual.ensures.1 c.in_err-check_kinds.ensures

pub returns : goal.returns
unfolding read_body
returns c = goes_on c.in_ok-check_kinds.ensures (compared c.args.antenna1.now c.args.antenna2.now c.first_difference-found.result c.requires.1 c.first_difference-found.ensures c.refused_at.ensures)
