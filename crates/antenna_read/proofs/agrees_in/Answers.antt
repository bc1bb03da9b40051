-- `antenna_read::agrees_in` meets its contract: what is given beside what it implies passes every check.
use mathlib.Core.Bool.{false≢true}
use mathlib.Core.Path.{sym, ◌∙◌}
use Rattle.antenna.proofs.Laws.{second_length}
use Rattle.antenna.proofs.Checks.{body_by}
use Rattle.antenna_read.proofs.Laws.{made, made_agrees}
use Rattle.antenna_read.proofs.agrees_in.Goals as goal

pub returns-then-fits : goal.returns-then-fits
returns-then-fits c =
    let start = c in
    let format = start.args.format in
    let first = start.args.first.now in
    let pre = start.requires in
    let is = c.second_of.ensures ∙ made format start.args.slot first start.args.implied.now pre.0 pre.2 in
    λ t.
    body_by _ _ _ _ _ c.fits.ensures c.if-fits.true pre.0 pre.1
    (made_agrees _ _ start.args.second.now _ is (second_length format start.args.slot first pre.0) (c.is_same.ensures t))

pub returns-else-fits : goal.returns-else-fits
returns-else-fits c = λ e. absurd (false≢true (sym c.if-fits.false ∙ e))
