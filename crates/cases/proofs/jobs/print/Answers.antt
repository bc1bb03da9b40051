-- `cases::jobs::print` stays within its line.
use Rattle.std.proofs.Common.{sym, length-take-le}
use Rattle.lines.proofs.Records.{prints_fit}
use Rattle.cases.proofs.jobs.print.Goals as goal

pub slice_bounds-line-end : goal.slice_bounds-line-end
slice_bounds-line-end g c = prints_fit (rw c.in-Ok.is at c.open.ensures).prints

pub slice_bounds-text-end : goal.slice_bounds-text-end
slice_bounds-text-end g c = sym (length-take-le _ _ (prints_fit (rw c.in-Ok.is at c.open.ensures).prints))
