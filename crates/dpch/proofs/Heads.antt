-- What is known where the checks of numbers and lengths refuse nothing, when they do not, that they never tell 6, and that their answers fit a packed answer.
-- Assumes nothing.
use mathlib.Core.Path.{◌≡◌}
use mathlib.Core.Bool.{Bool, true}
use mathlib.Core.List.{List, [], ◌∷◌}
use Prim.Native.Nat.{ℕ, ◌≤◌, ◌<◌}
use native.Mathlib.Omega.{arith}
use borrow.Author.Tests.{leb-true, le-leb}
use lib.Dec.{lit<}
use lib.ListN.{length, get_or}
use Rattle.run.specs.First.{Every}
use Rattle.run.specs.Refusals.{tfci_refused}
use Rattle.run.specs.Verdicts.{done, Narrow}
use Rattle.run.proofs.Chain.{or_else_done, unless_done, or_else_pass, unless_pass, AllRight, lengths_two, lengths_three, lengths_done, lengths_pass, check_narrow, lengths_narrow}
use Rattle.run.proofs.Never.{or_else_never, unless_never, lengths_never}
use Rattle.dpch.specs.Heads.{frame_head, slot_head}

-- two runs, where nothing is asked of a third and a fourth
pub head_two : (last format : ℕ) (a b : Bool) → frame_head last format (a ∷ b ∷ true ∷ true ∷ []) ≡ frame_head last format (a ∷ b ∷ [])
unfolding frame_head
head_two last format a b = rw (lengths_two a b)

-- .. and three, where nothing is asked of a fourth
pub head_three : (last format : ℕ) (a b c : Bool) → frame_head last format (a ∷ b ∷ c ∷ true ∷ []) ≡ frame_head last format (a ∷ b ∷ c ∷ [])
unfolding frame_head
head_three last format a b c = rw (lengths_three a b c)

module _ (last format : ℕ) (right : List Bool) where
  pub record FrameHeaded : Type 0 where
    pub format_ok : format ≤ last
    pub right_ok : Every (λ (k : ℕ). get_or right k true) (length right)

  pub frame_headed : (frame_head last format right).number ≡ 0 → FrameHeaded
  unfolding frame_head
  frame_headed h =
      let c = or_else_done _ _ h in
      record { format_ok = leb-true _ _ (unless_done _ 1 0 (omega arith) c.first); right_ok = lengths_done right c.rest }

  pub frame_head_pass : format ≤ last → AllRight right → frame_head last format right ≡ done
  unfolding frame_head
  frame_head_pass h r = or_else_pass (unless_pass 1 0 (le-leb _ _ h)) (lengths_pass right r)

  -- none of them tells 6
  pub frame_head_never : (frame_head last format right).number ≡ tfci_refused → ⊥
  unfolding frame_head
  frame_head_never = or_else_never 6 (lit< tt) _ _ (unless_never 6 (lit< tt) _ 1 0 (λ e. omega arith)) (lengths_never 6 (lit< tt) right (λ e. omega arith))

  pub frame_head_narrow : length right < 4294967296 → Narrow (frame_head last format right)
  unfolding frame_head
  frame_head_narrow h = check_narrow _ 1 0 _ (lit< tt) (lit< tt) (lit< tt) (λ _. lengths_narrow right h)

  module _ (slot : ℕ) where
    pub record SlotHeaded : Type 0 where
      pub format_ok : format ≤ last
      pub slot_ok : slot ≤ 14
      pub right_ok : Every (λ (k : ℕ). get_or right k true) (length right)

    pub slot_headed : (slot_head last format slot right).number ≡ 0 → SlotHeaded
    unfolding slot_head
    slot_headed h =
        let c = or_else_done _ _ h in
        let d = or_else_done _ _ c.rest in
        record {
          format_ok = leb-true _ _ (unless_done _ 1 0 (omega arith) c.first);
          slot_ok = leb-true _ _ (unless_done _ 2 0 (omega arith) d.first);
          right_ok = lengths_done right d.rest;
        }

    pub slot_head_pass : format ≤ last → slot ≤ 14 → AllRight right → slot_head last format slot right ≡ done
    unfolding slot_head
    slot_head_pass h k r = or_else_pass (unless_pass 1 0 (le-leb _ _ h)) (or_else_pass (unless_pass 2 0 (le-leb _ _ k)) (lengths_pass right r))

    pub slot_head_narrow : length right < 4294967296 → Narrow (slot_head last format slot right)
    unfolding slot_head
    slot_head_narrow h =
        check_narrow _ 1 0 _ (lit< tt) (lit< tt) (lit< tt) (λ _. check_narrow _ 2 0 _ (lit< tt) (lit< tt) (lit< tt) (λ _. lengths_narrow right h))

    pub slot_head_never : (slot_head last format slot right).number ≡ tfci_refused → ⊥
    unfolding slot_head
    slot_head_never =
        or_else_never 6 (lit< tt) _ _ (unless_never 6 (lit< tt) _ 1 0 (λ e. omega arith))
        (or_else_never 6 (lit< tt) _ _ (unless_never 6 (lit< tt) _ 2 0 (λ e. omega arith)) (lengths_never 6 (lit< tt) right (λ e. omega arith)))
