-- `lines::text::Text::row` meets its contract.
use native.Mathlib.Omega.{arith}
use Rattle.lines.proofs.Put.{wrote_then, wrote_length}
use Rattle.lines.proofs.Words.{glyphs_length}
use Rattle.lines.proofs.text.Text.row.Goals as goal

pub byte-requires : goal.byte-requires
byte-requires c =
    let w = c.digits.ensures.wrote in
    let l = glyphs_length c.args.s.now in
    omega (arith, c.requires, l, w.ends, wrote_length (omega (arith, c.requires, l)) w)

pub returns-clause-wrote : goal.returns-clause-wrote
returns-clause-wrote c =
    let l = glyphs_length c.args.s.now in
    wrote_then (omega (arith, c.requires, l)) c.digits.ensures.wrote c.byte.ensures.wrote
