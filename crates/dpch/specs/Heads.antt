-- docs/RULES.md, 'Numbers a call can return': the checks with which a call on a channel with a table of formats begins. `last` is the last format of the channel's table, and `right` says of each
-- lent run whether it has its length, in the order of the call. Two heads are spelt where they stand: that of the mapper on two antennas, which asks the antenna between slot and lengths, and that of
-- compressed frames, which asks a row and a gap.
-- Assumes nothing.
use Rattle.std.specs.Prelude.{ℕ, Bool, List, leb}
use Rattle.run.specs.Verdict.{Verdict}
use Rattle.run.specs.Refusals.{format_refused, slot_refused}
use Rattle.run.specs.Verdicts.{or_else, unless, lengths}

-- a frame, and whatever else takes no slot number: 1, 3
unfoldable pub frame_head : ℕ → ℕ → List Bool → Verdict
frame_head last format right = or_else (unless (leb format last) format_refused 0) (lengths right)

-- a slot: 1, 2, 3
unfoldable pub slot_head : ℕ → ℕ → ℕ → List Bool → Verdict
slot_head last format slot right =
    or_else (unless (leb format last) format_refused 0)
    (or_else (unless (leb slot 14) slot_refused 0)
    (lengths right))
