-- `antenna_read::compare` meets its contract.
use mathlib.Core.Path.{◌∙◌}
use Rattle.antenna_read.proofs.Laws.{made}
use Rattle.antenna_read.proofs.compare.Goals as goal

pub returns : goal.returns
returns c =
    let pre = c.requires in
    let is = c.second_of.ensures ∙ made c.args.format c.args.slot c.args.first.now c.args.implied.now pre.0 pre.2 in
    c.difference.ensures ∙ rw is
