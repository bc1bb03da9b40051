-- `sttd_digits::bar` meets its contract.
use Rattle.sttd.proofs.Bars.{bar_by_bit}
use Rattle.sttd_digits.proofs.bar.Goals as goal

pub returns : goal.returns
returns c = bar_by_bit c.args.d
