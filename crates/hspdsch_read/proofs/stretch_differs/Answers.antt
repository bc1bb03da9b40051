-- `hspdsch_read::stretch_differs` meets its contract: the local run is antenna 1's stretch encoded.
use mathlib.Core.Path.{refl}
use Rattle.hspdsch_read.proofs.Laws.{stretch_told}
use Rattle.hspdsch_read.proofs.stretch_differs.Goals as goal

pub returns : goal.returns
returns c = rw (stretch_told c.args.format c.args.antenna1.now _ c.requires.0 refl c.encode.ensures) at c.difference.ensures
