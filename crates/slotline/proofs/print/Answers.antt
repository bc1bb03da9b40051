-- `print` begins within its window and its lines, and reads no more than may be read.
use Rattle.std.proofs.Common.{◌∙◌, arith}
use Rattle.lines.proofs.Records.{prints_fit}
use Rattle.slotline.proofs.Laws.{header_inside}
use Rattle.slotline.proofs.Spending.{spent_of_more, within_then}
use Rattle.slotline.proofs.print.Goals as goal

pub records-requires : goal.records-requires
records-requires g c =
    let o = rw c.in-Ok.is at c.open.ensures in (
      record {
        cut = header_inside c.args.filled c.args.window.now o;
        inside = c.requires.2;
        bounded = omega (arith, c.unread_after.ensures);
        waits = omega (arith, prints_fit o.prints, c.open.auto.line, c.requires.1);
      },
      c.requires.0,
      c.open.auto.line ∙ c.requires.1,
    )

pub returns-in_ok-last-in-Ok-clause-limit : goal.returns-in_ok-last-in-Ok-clause-limit
returns-in_ok-last-in-Ok-clause-limit g c =
    within_then _ _ (spent_of_more c.in_ok-last-in-Ok.ensures.limit (omega (arith, c.unread_after.ensures))) c.finish.ensures.limit
