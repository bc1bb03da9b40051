-- `sttd_values::negated` meets its contract.
use Rattle.sttd.proofs.Bars.{minus_ok, minus_is}
use Rattle.sttd_values.proofs.negated.Goals as goal

pub overflow_sub-result : goal.overflow_sub-result
overflow_sub-result c = minus_ok c.args.v c.requires

pub returns : goal.returns
returns c = minus_is c.args.v c.requires
