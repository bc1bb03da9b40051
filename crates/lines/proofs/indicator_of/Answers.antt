-- `lines::indicator_of` meets its contract.
use native.Mathlib.Omega.{arith}
use borrow.Author.Tests.{eq-eqb, ne_eqb}
use Rattle.lines.specs.Rule.{indicator_of}
use Rattle.lines.proofs.Values.{byte_back}
use Rattle.lines.proofs.indicator_of.Goals as goal

pub returns-then-byte-eq2 : goal.returns-then-byte-eq2
unfolding indicator_of
returns-then-byte-eq2 c = rw (eq-eqb _ 2 c.if-byte-eq2.true)

pub returns-else-byte-eq2 : goal.returns-else-byte-eq2
unfolding indicator_of
returns-else-byte-eq2 c = rw (ne_eqb _ 2 c.if-byte-eq2.false) (byte_back c.args.byte (omega (arith, c.ranges.byte)))
