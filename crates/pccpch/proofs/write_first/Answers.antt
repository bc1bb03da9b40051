-- `pccpch::write_first` meets its contract.
use Rattle.pccpch.proofs.write_first.Goals as goal

pub returns-else-antenna-eq300 : goal.returns-else-antenna-eq300
returns-else-antenna-eq300 c = λ e. absurd (c.if-antenna-eq300.false e)
