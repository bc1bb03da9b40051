-- docs/RULES.md, 'Job file and program': what each call answers and leaves in the lent line, for all inputs. A lent line without room for the longest line is refused with 3.
-- Assumes nothing.
use Rattle.std.specs.Prelude.{ℕ, ◌≡◌, Bool, ◌&&◌, List, eqb, leb, length, get_or}
use Rattle.run.specs.Verdict.{Verdict}
use Rattle.run.specs.Refusals.{length_refused}
use Rattle.run.specs.Verdicts.{or_else, unless, leaves}
use Rattle.dpch.specs.Formats.{format_of}
use Rattle.pich.specs.Outcome.{map_verdict as pichVerdict}
use Rattle.slot.specs.Outcome.{map_verdict as slot_verdict}
use Rattle.aich.specs.Outcome.{map_verdict as aichVerdict}
use Rattle.lines.specs.Answers.{Told}
use Rattle.kinds.specs.Rule.{is_kind, by_kind, size_of, second_verdict}
use Rattle.lines.specs.Rule.{indicators_of, second_of, paging_of, slot_number_of, tpc_of, tfci_of, data_of, head_line, record_line, refusal_line}
use Rattle.lines.specs.Text.{put}

-- the longest line: 'DPCH 16 14 ', 1280 digits and the end of the line
abbrev pub line_size : ℕ
line_size = 1292

-- 3 for a line that is shorter; it is run `place` of the call
abbrev pub room : ℕ → ℕ → Verdict
room place lineLength = unless (leb line_size lineLength) length_refused place

-- a kind that there is, a byte behind it that its rule takes, and as many bytes as they say
unfoldable pub is_whole : List ℕ → Bool
is_whole r = is_kind (get_or r 0 0) && eqb (second_verdict (get_or r 0 0) (second_of r)).number 0 && eqb (length r) (size_of (get_or r 0 0) (second_of r))

-- the mapper's checks with the mapper's places
unfoldable pub mapper_verdict : List ℕ → Verdict
mapper_verdict r =
    by_kind (get_or r 0 0)
    (aichVerdict (indicators_of r) 32)
    (pichVerdict (second_of r) (paging_of r) 300)
    (slot_verdict (second_of r) (slot_number_of r) (tpc_of r) (data_of r) (tfci_of r) (format_of (second_of r)).slot)

-- a line is printed where the call is done: its length, and the lent line with it at the front
pub record Prints (v : Verdict) (text line : List ℕ) (answer : ℕ) (line_after : List ℕ) : Type 0 where
  pub length_is : answer ≡ leaves v (length text) 0
  pub line_is : line_after ≡ leaves v (put 0 text line) line

-- what a record's own bytes print: its line where the mapper takes it
pub record Writes (r line : List ℕ) (answer : Told) (line_after : List ℕ) : Type 0 where
  pub verdict_is : answer.verdict ≡ mapper_verdict r
  pub prints : Prints (mapper_verdict r) (record_line r) line answer.length line_after

-- head: 3 (line); what a header prints
pub record Head (version count : ℕ) (line : List ℕ) (answer : Told) (line_after : List ℕ) : Type 0 where
  pub verdict_is : answer.verdict ≡ room 0 (length line)
  pub prints : Prints (room 0 (length line)) (head_line version count) line answer.length line_after

-- record: 3 (record, line), for bytes that are no whole record, then for a line with no room; then the mapper's checks
unfoldable pub line_verdict : List ℕ → ℕ → Verdict
line_verdict r lineLength = or_else (unless (is_whole r) length_refused 0) (or_else (room 1 lineLength) (mapper_verdict r))

pub record Record (r line : List ℕ) (answer : Told) (line_after : List ℕ) : Type 0 where
  pub verdict_is : answer.verdict ≡ line_verdict r (length line)
  pub prints : Prints (line_verdict r (length line)) (record_line r) line answer.length line_after

-- tell: 3 (line); what a refusal prints
pub record Tell (refusal : Verdict) (line : List ℕ) (answer : Told) (line_after : List ℕ) : Type 0 where
  pub verdict_is : answer.verdict ≡ room 0 (length line)
  pub prints : Prints (room 0 (length line)) (refusal_line refusal) line answer.length line_after
