-- How much of an input is read, where its bytes are known: never more than may be.
-- Assumes nothing.
use Rattle.std.specs.Prelude.{ℕ, ◌+◌, ◌≤◌, List, length, Option, Result, MatchResult}
use Rattle.std.specs.Io.KnownBytes.{Consumes}
use Rattle.slotline.specs.declared.Stand.{Stand}

-- of the bytes that might be read some were, and no more are left to be read than the others
pub record Spends (before after : Option (List ℕ)) (unread left : ℕ) : Type 0 where
  pub bytes : List ℕ
  pub given : Consumes before after bytes
  pub few : length bytes + left ≤ unread

-- the same of a part of the run, also where a read or a write failed
abbrev pub Within : {E : Type 0} → Option (List ℕ) → Option (List ℕ) → ℕ → Result Stand E → Type 0
Within before after unread r = MatchResult r (λ s. Spends before after unread s.unread) (λ _. Spends before after unread 0)
