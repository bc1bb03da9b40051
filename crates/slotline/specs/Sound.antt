-- What holds at every turn of the program: the window and the lines that wait lie within their buffers, and no byte behind the limit of version 2 is read.
-- Assumes nothing.
use Rattle.std.specs.Prelude.{ℕ, ◌+◌, ◌≤◌, ◌<◌, ◌≡◌, List, length}
use Rattle.slotline.specs.declared.Stand.{Stand}

-- each buffer has 64 KiB
abbrev pub Buffer : List ℕ → Type 0
Buffer bytes = length bytes ≡ 65536

pub record Sound (s : Stand) : Type 0 where
  pub cut : s.at ≤ s.filled
  pub inside : s.filled ≤ 65536
  pub bounded : s.before + s.filled + s.unread ≤ 1048577
  pub waits : s.waiting ≤ 65536

-- what a part of a turn leaves: as many records to be run, or fewer
pub record Kept (before after : Stand) : Type 0 where
  pub sound : Sound after
  pub same : after.left ≡ before.left

pub record Turned (before after : Stand) : Type 0 where
  pub sound : Sound after
  pub less : after.left < before.left
