-- `lines::text::Text::decimal` meets its contract: a number of one digit is that digit; one of more is the text of its tenth, and then its last digit.
use mathlib.Core.Path.{ap}
use native.Mathlib.Omega.{arith}
use lib.ListN.{length}
use Rattle.lines.proofs.Put.{wrote_length}
use Rattle.lines.proofs.Words.{decimal_one, decimal_longer, decimal_then}
use Rattle.lines.proofs.text.Text.+decimal.Goals as goal
use Rattle.lines.proofs.text.Text.+decimal.Goals.{then-n-ge10, else-n-ge10}

pub decimal-requires : goal.decimal-requires
decimal-requires t c =
    let l = decimal_longer _ c.if-n-ge10.true in
    (rw (← c.decreases) (omega (arith, c.if-n-ge10.true)), omega (arith, c.requires, l))

pub byte-requires : goal.byte-requires
byte-requires t c = elim c.if-n-ge10.branch [
  | then-n-ge10 w ↦
      let d = w.decimal.ensures.wrote in
      let l = decimal_longer _ w.if-n-ge10.true in
      rw w.self-is (omega (arith, c.requires, l, d.ends, wrote_length (omega (arith, c.requires, l)) d))
  | else-n-ge10 w ↦ rw w.self-is (omega (arith, c.requires, ap length (decimal_one _ w.if-n-ge10.false)))
]

pub returns-clause-wrote : goal.returns-clause-wrote
returns-clause-wrote t c = elim c.if-n-ge10.branch [
  | then-n-ge10 w ↦ decimal_then w.if-n-ge10.true c.requires w.decimal.ensures.wrote (rw w.self-is at c.byte.ensures.wrote)
  | else-n-ge10 w ↦ rw (decimal_one _ w.if-n-ge10.false) (rw w.self-is at c.byte.ensures.wrote)
]
