-- `turn` reads once at most.
use Rattle.std.proofs.Common.{arith}
use Rattle.slotline.proofs.Spending.{spent_less}
use Rattle.slotline.proofs.turn.Goals as goal

pub returns-clause-limit : goal.returns-clause-limit
returns-clause-limit g c = spent_less c.in_ok-filled.ensures.limit (omega (arith, c.step.ensures.unread, c.in_ok-free.ensures.unread))
