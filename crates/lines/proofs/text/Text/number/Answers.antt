-- `lines::text::Text::number` meets its contract.
use native.Mathlib.Omega.{arith}
use Rattle.lines.proofs.Put.{wrote_then, wrote_length}
use Rattle.lines.proofs.Words.{number_long}
use Rattle.lines.proofs.text.Text.number.Goals as goal

pub decimal-requires : goal.decimal-requires
decimal-requires c =
    omega (arith, c.requires, number_long c.args.n c.args.behind)

pub byte-requires : goal.byte-requires
byte-requires c =
    let w = c.decimal.ensures.wrote in
    let l = number_long c.args.n c.args.behind in
    omega (arith, c.requires, l, w.ends, wrote_length (omega (arith, c.requires, l)) w)

pub returns-clause-wrote : goal.returns-clause-wrote
returns-clause-wrote c =
    let l = number_long c.args.n c.args.behind in
    wrote_then (omega (arith, c.requires, l)) c.decimal.ensures.wrote c.byte.ensures.wrote
