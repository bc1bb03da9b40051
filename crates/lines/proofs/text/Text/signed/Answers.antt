-- `lines::text::Text::signed` meets its contract: its sign where it has one, and its size.
use native.Mathlib.Omega.{arith}
use Rattle.lines.proofs.Put.{wrote_length}
use Rattle.lines.proofs.Values.{size_digits, signed_minus, signed_plus}
use Rattle.lines.proofs.text.Text.signed.Goals as goal
use Rattle.lines.proofs.text.Text.signed.Goals.{then-v-lt0, else-v-lt0}

pub decimal-requires : goal.decimal-requires
decimal-requires c =
    let l = size_digits _ _ c.requires.0 c.unsigned_abs.ensures.value in
    elim c.if-v-lt0.branch [
      | then-v-lt0 w ↦
          let m = w.byte.ensures.wrote in
          rw w.self-is (omega (arith, c.requires.1, l, m.ends, wrote_length (omega (arith, c.requires.1)) m))
      | else-v-lt0 w ↦ rw w.self-is (omega (arith, c.requires.1, l))
    ]

pub returns-clause-wrote : goal.returns-clause-wrote
returns-clause-wrote c = elim c.if-v-lt0.branch [
  | then-v-lt0 w ↦ signed_minus _ c.requires.0 w.if-v-lt0.true c.unsigned_abs.ensures.value c.requires.1 w.byte.ensures.wrote (rw w.self-is at c.decimal.ensures.wrote)
  | else-v-lt0 w ↦ signed_plus _ c.requires.0 w.if-v-lt0.false c.unsigned_abs.ensures.value (rw w.self-is at c.decimal.ensures.wrote)
]
