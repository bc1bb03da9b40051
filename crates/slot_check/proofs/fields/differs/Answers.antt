-- `slot_check::fields::differs` meets its contract.
use mathlib.Core.Path.{◌≡◌, ◌∙◌}
use Prim.Native.Nat.{◌+◌, ◌-◌}
use native.Mathlib.Omega.{arith}
use borrow.Author.Tests.{eq-eqb, ne_eqb}
use Rattle.slot_check.proofs.fields.differs.Goals as goal

pub returns-then-s-shortest : goal.returns-then-s-shortest
returns-then-s-shortest c =
    let width : c.args.shortest + c.args.shortest - c.args.shortest ≡ c.args.shortest = omega arith in
    c.difference.ensures ∙ rw (eq-eqb _ _ c.if-s-shortest.true, width)

pub returns-else-s-shortest : goal.returns-else-s-shortest
returns-else-s-shortest c = c.difference-else-s-shortest.ensures ∙ rw (ne_eqb _ _ c.if-s-shortest.false)
