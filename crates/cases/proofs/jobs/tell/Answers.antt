-- `cases::jobs::tell` stays within its line.
use Rattle.std.proofs.Common.{sym, ◌∙◌, length-take-le}
use Rattle.lines.proofs.Answers.{length_is}
use Rattle.lines.proofs.Records.{prints_fit}
use Rattle.cases.proofs.jobs.tell.Goals as goal

pub slice_bounds-line-end : goal.slice_bounds-line-end
slice_bounds-line-end g c = rw (c.unwrap_or-n.ensures ∙ length_is c.tell.result) (prints_fit c.tell.ensures.prints)

pub slice_bounds-text-end : goal.slice_bounds-text-end
slice_bounds-text-end g c = sym (length-take-le _ _ (rw (c.unwrap_or-n.ensures ∙ length_is c.tell.result) (prints_fit c.tell.ensures.prints)))
