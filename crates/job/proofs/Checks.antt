-- Checks of a file's own bytes and of a line's room: what is known where one passes.
-- Assumes nothing.
use mathlib.Core.Path.{◌≡◌, refl, sym, ◌∙◌}
use mathlib.Core.Bool.{Bool, true, false, cond}
use mathlib.Core.List.{List}
use Prim.Native.Nat.{ℕ, ◌≤◌}
use native.Mathlib.Omega.{arith}
use borrow.Author.Tests.{leb-true, le-leb}
use lib.Dec.{eqb}
use Rattle.run.specs.Verdict.{Verdict}
use Rattle.run.proofs.Chain.{or_else_done, unless_pass, leaves_done, number_0}
use Rattle.lines.specs.Outcome.{line_size, room, Prints}
use Rattle.lines.proofs.Checks.{room_done}
use Rattle.job.specs.declared.fault.Fault.{Fault}
use Rattle.job.specs.declared.fault.Fault.TheVariants.{OverLong, WrongMark, UnknownVersion, UnknownKind, EndsEarly, BytesAfter}
use Rattle.job.specs.Faults.{verdict_of, check}
use Rattle.job.specs.Rule.{width_of}
use Rattle.job.specs.Outcome.{reach, open_verdict}

-- a fault is a refusal
fault_refuses : (fault : Fault) → (verdict_of fault).number ≡ 0 → ⊥
unfolding verdict_of
fault_refuses (OverLong limit) e = let z : ⊥ = omega arith in z
fault_refuses (WrongMark offset) e = let z : ⊥ = omega arith in z
fault_refuses (UnknownVersion offset) e = let z : ⊥ = omega arith in z
fault_refuses (UnknownKind offset) e = let z : ⊥ = omega arith in z
fault_refuses (EndsEarly offset) e = let z : ⊥ = omega arith in z
fault_refuses (BytesAfter offset) e = let z : ⊥ = omega arith in z

pub check_done : (ok : Bool) (fault : Fault) → (check ok fault).number ≡ 0 → ok ≡ true
unfolding check
check_done true fault e = refl
check_done false fault e = absurd (fault_refuses fault e)

-- reading comes to the end: all bytes up to it are there
pub reach_done : (limit size end : ℕ) → (reach limit size end).number ≡ 0 → end ≤ size
unfolding reach
reach_done limit size end h = leb-true _ _ (check_done _ _ (or_else_done _ _ h).rest)

-- a count has at most two bytes
pub width_small : (version : ℕ) → width_of version ≤ 2
unfolding width_of
width_small version = pick (eqb version 1)
  where
    pick : (b : Bool) → cond b 1 2 ≤ 2
    pick true = omega arith
    pick false = omega arith

-- a line with room for one call has room for another
pub room_passes : (place line_length : ℕ) → line_size ≤ line_length → (room place line_length).number ≡ 0
room_passes place line_length h = number_0 (unless_pass 3 place (le-leb line_size line_length h))

pub open_room : (file : List ℕ) (line_length : ℕ) → (open_verdict file line_length).number ≡ 0 → (room 0 line_length).number ≡ 0
unfolding open_verdict
open_room file line_length h = room_passes 0 line_length (room_done 1 line_length (or_else_done _ _ h).first)

-- what one call prints is what another does where both are done
pub prints_as : {v : Verdict} {text line line' : List ℕ} {n : ℕ} (w : Verdict) → v.number ≡ 0 → w.number ≡ 0 → Prints v text line n line' → Prints w text line n line'
prints_as {v} w h k p =
    record { length_is = p.length_is ∙ leaves_done v _ _ h ∙ sym (leaves_done w _ _ k); line_is = p.line_is ∙ leaves_done v _ _ h ∙ sym (leaves_done w _ _ k) }
