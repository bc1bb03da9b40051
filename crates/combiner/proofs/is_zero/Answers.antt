-- `combiner::is_zero` meets its contract: a part is compared with 0 by its bits.
use lib.IntN.{pos}
use mir.Syntax.{w64}
use mir.Facts.{sfits_lit}
use borrow.Author.Rules.{rules}
use borrow.Author.Tests.{ne_eqb}
use Rattle.whole.proofs.Equal.{eq_eq_z, same_bits, other_bits, bits_eq_z}
use Rattle.combiner.proofs.is_zero.Goals as goal

pub returns-then-h-eq0 : goal.returns-then-h-eq0
returns-then-h-eq0 c =
    rw (eq_eq_z c.args.h.re (pos 0) (same_bits {w = w64} (record { sfits = search rules }) (sfits_lit {z = pos 0} tt) c.if-h-eq0.true))
    (bits_eq_z {w = w64} {x = c.args.h.im} (record { sfits = search rules }) (sfits_lit {z = pos 0} tt))

pub returns-else-h-eq0 : goal.returns-else-h-eq0
returns-else-h-eq0 c = rw (other_bits w64 c.args.h.re (pos 0) c.if-h-eq0.false) (ne_eqb _ _ c.if-h-eq0.false)
