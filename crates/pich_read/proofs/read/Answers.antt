-- `pich_read::read` meets its contract: what is given is read at once, and all else goes through the checks in their order.
use Rattle.pich_read.proofs.Laws.{given_read}
use Rattle.pich_read.proofs.read.Goals as goal

pub returns-then-take_given : goal.returns-then-take_given
returns-then-take_given c =
    let fit = c.lengths_fit.ensures c.if-lengths_fit.true in
    given_read fit.0 fit.1 fit.2 (c.take_given.ensures.0 c.if-take_given.true)
