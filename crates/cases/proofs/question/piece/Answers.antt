-- `cases::question::piece` is safe: no mark is found behind the end.
use Rattle.std.proofs.Common.{sym, ◌∙◌, length, length-take-le}
use Rattle.run.specs.First.{not_at}
use Rattle.run.proofs.First.{first_le}
use Rattle.run.proofs.Places.{equal_first}
use Rattle.cases.proofs.question.piece.Goals as goal

pub slice_bounds-result-end : goal.slice_bounds-result-end
slice_bounds-result-end c = sym (length-take-le c.unwrap_or-n.result c.behind-rest.result.now (rw (c.unwrap_or-n.ensures ∙ equal_first _ _ c.equal.ensures) (first_le (not_at c.args.mark c.behind-rest.result.now) (length c.behind-rest.result.now))))
