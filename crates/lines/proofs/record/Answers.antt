-- `lines::record` meets its contract: the mapper is asked where no byte is missing and the line has room.
use mathlib.Core.Path.{refl}
use Rattle.lines.proofs.Records.{record_left, record_whole, record_writes}
use Rattle.lines.proofs.record.Goals as goal

pub returns-in_err-check : goal.returns-in_err-check
returns-in_err-check c = record_left _ _ _ _ c.from_residual.ensures.1 c.in_err-check.ensures

pub record_line-requires : goal.record_line-requires
record_line-requires c = record_whole _ c.args.line.now c.in_ok-check.ensures refl

pub returns : goal.returns
returns c = record_writes _ _ c.in_ok-check.ensures refl c.record_line.ensures
