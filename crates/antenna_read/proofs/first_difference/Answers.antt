-- `antenna_read::first_difference` meets its contract: no slot is longer than the longer run.
use native.Mathlib.Omega.{arith}
use Rattle.slot.proofs.Laws.{sound_format}
use Rattle.antenna_read.proofs.first_difference.Goals as goal

pub slice_bounds-long-end : goal.slice_bounds-long-end
slice_bounds-long-end c = omega (arith, c.requires.0, (sound_format c.args.format).short)
