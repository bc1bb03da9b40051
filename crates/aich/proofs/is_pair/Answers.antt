-- `aich::is_pair` meets its contract: numbers are compared by their bits.
use mir.Syntax.{w32}
use mir.Facts.{to_z-of_z}
use borrow.Author.Tests.{ne_eqb}
use Rattle.whole.proofs.Equal.{same_bits, other_bits, eq_eq_z}
use Rattle.aich.specs.Method.{is_pair}
use Rattle.aich.proofs.is_pair.Goals as goal

pub returns-then-a-b : goal.returns-then-a-b
unfolding is_pair
returns-then-a-b c =
    let f = c.ranges in
    rw (eq_eq_z _ _ (same_bits f.a f.b c.if-a-b.true)) (rw (to_z-of_z {w = w32} f.a) at c.small.ensures)

pub returns-else-a-b : goal.returns-else-a-b
unfolding is_pair
returns-else-a-b c = rw (other_bits w32 c.args.a c.args.b c.if-a-b.false) (ne_eqb _ _ c.if-a-b.false)
