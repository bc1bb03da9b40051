-- Chains of checks of which the last is looked at where the others pass, and a line with room.
-- Assumes nothing.
use mathlib.Core.Path.{◌≡◌, refl, sym, ◌∙◌}
use mathlib.Core.Bool.{Bool, true, false}
use Prim.Native.Nat.{ℕ, ◌≤◌}
use borrow.Author.Tests.{leb-true}
use lib.Dec.{eqb, lit<}
use Rattle.run.specs.Verdict.{Verdict}
use Rattle.run.specs.Verdicts.{or_else}
use Rattle.run.proofs.Chain.{or_else_refused, or_else_next, unless_done}
use Rattle.lines.specs.Outcome.{line_size, room}

-- chains in either grouping
pub or_else_assoc : (u v w : Verdict) → or_else (or_else u v) w ≡ or_else u (or_else v w)
unfolding or_else
or_else_assoc u v w = pick (eqb u.number 0) refl
  where
    pick : (b : Bool) → eqb u.number 0 ≡ b → or_else (or_else u v) w ≡ or_else u (or_else v w)
    pick true e = rw e
    pick false e = rw (e, e)

-- a third check is looked at where the first two pass
pub then_refused : {a b t : Verdict} (u v w : Verdict) → t ≡ or_else a b → a ≡ u → b ≡ v → (t.number ≡ 0 → ⊥) → t ≡ or_else u (or_else v w)
then_refused {a} {b} {t} u v w e p q h =
    let is : t ≡ or_else u v = e ∙ rw (p, q) in
    is ∙ sym (or_else_refused (or_else u v) w (rw is at h)) ∙ or_else_assoc u v w

pub then_next : {a b t : Verdict} (u v w : Verdict) → t ≡ or_else a b → a ≡ u → b ≡ v → t.number ≡ 0 → w ≡ or_else u (or_else v w)
then_next {a} {b} {t} u v w e p q h =
    let is : t ≡ or_else u v = e ∙ rw (p, q) in
    sym (or_else_next (or_else u v) w (rw is at h)) ∙ or_else_assoc u v w

-- a line with room
pub room_done : (place line_length : ℕ) → (room place line_length).number ≡ 0 → line_size ≤ line_length
room_done place line_length e = leb-true _ _ (unless_done _ 3 place (lit< tt) e)
