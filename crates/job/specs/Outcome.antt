-- docs/RULES.md, 'Job file and program': what each call answers and leaves in the lent line, for all inputs. A call is lent a window: a part of the file that begins
-- at a byte of it, the offset. It answers for a file that ends where the window does; specs/Windows.antt says when that is what the whole file is told.
-- Assumes nothing.
use Rattle.std.specs.Prelude.{ℕ, ◌+◌, min, ◌≡◌, Bool, cond, List, eqb, leb, ltb, length, get_or}
use Rattle.run.specs.Verdict.{Verdict}
use Rattle.run.specs.Verdicts.{done, or_else, leaves}
use Rattle.kinds.specs.Rule.{is_kind, second_verdict}
use Rattle.lines.specs.Rule.{head_line, record_line}
use Rattle.lines.specs.Outcome.{room, mapper_verdict, Prints}
use Rattle.job.specs.Answers.{Opened}
use Rattle.job.specs.Answers.{Ran}
use Rattle.job.specs.declared.fault.Fault.{Fault}
use Rattle.job.specs.declared.fault.Fault.TheVariants.{OverLong, WrongMark, UnknownVersion, UnknownKind, EndsEarly, BytesAfter}
use Rattle.job.specs.Faults.{check}
use Rattle.job.specs.Rule.{version_in, is_version, width_of, limit_of, count_in, first_record, size_in, record_in}

-- ---- bytes are looked for in turn, up to `end`, in a file of `size` bytes. The byte at the limit is over-long if it is among them and is there, before any other check ..
unfoldable pub within : ℕ → ℕ → ℕ → Verdict
within limit size end = check (leb (min end size) limit) (OverLong limit)

-- .. and a byte that is missing is told at the file's length
unfoldable pub reach : ℕ → ℕ → ℕ → Verdict
reach limit size end = or_else (within limit size end) (check (leb end size) (EndsEarly size))

-- ---- the header: no limit is in it. A byte of it that is missing is told at the file's length
unfoldable pub present : List ℕ → ℕ → Verdict
present file offset = check (ltb offset (length file)) (EndsEarly (length file))

-- a byte of the header: it is there, and it is one that may stand there
unfoldable pub byte_is : List ℕ → ℕ → Bool → Fault → Verdict
byte_is file offset ok fault = or_else (present file offset) (check ok fault)

-- version 1 asks for the whole file's length here, version 2 when reading comes to its limit
unfoldable pub length_verdict : ℕ → ℕ → Verdict
length_verdict version size = cond (eqb version 1) (check (leb size (limit_of version)) (OverLong (limit_of version))) done

-- the header's bytes in turn: S, L, T, the version's two bytes; then an over-long file of version 1; then the count's bytes
unfoldable pub head_verdict : List ℕ → Verdict
head_verdict file =
    or_else (byte_is file 0 (eqb (get_or file 0 0) 83) (WrongMark 0))
    (or_else (byte_is file 1 (eqb (get_or file 1 0) 76) (WrongMark 1))
    (or_else (byte_is file 2 (eqb (get_or file 2 0) 84) (WrongMark 2))
    (or_else (byte_is file 3 (eqb (get_or file 3 0) 0) (UnknownVersion 3))
    (or_else (byte_is file 4 (is_version (version_in file)) (UnknownVersion 4))
    (or_else (length_verdict (version_in file) (length file))
    (present file (4 + width_of (version_in file))))))))

-- ---- a record at the front of a window: its kind, then its format (1) or its Np (8), then whether it is whole ..
abbrev pub size_from : ℕ → List ℕ → ℕ
size_from offset window = offset + length window

unfoldable pub kind_head : ℕ → ℕ → List ℕ → Verdict
kind_head limit offset window =
    or_else (check (is_kind (get_or window 0 0)) (UnknownKind offset))
    (or_else (reach limit (size_from offset window) (offset + 2))
    (or_else (second_verdict (get_or window 0 0) (get_or window 1 0))
    (reach limit (size_from offset window) (offset + size_in window))))

unfoldable pub record_head : ℕ → ℕ → List ℕ → Verdict
record_head limit offset window = or_else (reach limit (size_from offset window) (offset + 1)) (kind_head limit offset window)

-- .. then the mapper's checks with the mapper's places
unfoldable pub record_verdict : ℕ → ℕ → List ℕ → Verdict
record_verdict limit offset window = or_else (record_head limit offset window) (mapper_verdict (record_in window))

-- a byte behind the last record is told at its offset, but for the limit's
unfoldable pub end_verdict : ℕ → ℕ → List ℕ → Verdict
end_verdict limit offset window =
    or_else (within limit (size_from offset window) (offset + 1)) (check (leb (size_from offset window) offset) (BytesAfter offset))

-- ---- open: 3 (window, line), then the header at the front of the file's first window
unfoldable pub open_verdict : List ℕ → ℕ → Verdict
open_verdict window lineLength = or_else (room 1 lineLength) (head_verdict window)

pub record Open (window line : List ℕ) (answer : Opened) (line_after : List ℕ) : Type 0 where
  pub verdict_is : answer.verdict ≡ open_verdict window (length line)
  pub limit_is : answer.limit ≡ leaves (open_verdict window (length line)) (limit_of (version_in window)) 0
  pub count_is : answer.count ≡ leaves (open_verdict window (length line)) (count_in (width_of (version_in window)) window) 0
  pub next_is : answer.next ≡ leaves (open_verdict window (length line)) (first_record (width_of (version_in window))) 0
  pub prints : Prints (open_verdict window (length line)) (head_line (version_in window) (count_in (width_of (version_in window)) window)) line answer.length line_after

-- run: 3 (window, line), then the record at the front of a window that begins at an offset of the file
unfoldable pub run_verdict : ℕ → ℕ → List ℕ → ℕ → Verdict
run_verdict limit offset window lineLength = or_else (room 1 lineLength) (record_verdict limit offset window)

pub record Run (limit offset : ℕ) (window line : List ℕ) (answer : Ran) (line_after : List ℕ) : Type 0 where
  pub verdict_is : answer.verdict ≡ run_verdict limit offset window (length line)
  pub size_is : answer.size ≡ leaves (run_verdict limit offset window (length line)) (size_in window) 0
  pub prints : Prints (run_verdict limit offset window (length line)) (record_line (record_in window)) line answer.length line_after
