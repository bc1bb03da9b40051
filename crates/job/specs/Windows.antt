-- Windows of a job file: when a call that is lent a part of the file answers what the whole file is told. Each statement is proved in proofs/Windows.antt under its
-- name in small letters.
-- Assumes nothing.
use Rattle.std.specs.Prelude.{ℕ, suc, ◌+◌, ◌≤◌, ◌<◌, min, ◌≡◌, cond, List, [], ◌++◌, eqb, length, get_or, drop}
use Rattle.kinds.specs.Rule.{is_kind, second_verdict}
use Rattle.job.specs.Rule.{version_in, width_of, limit_of, count_in, size_in, record_in}
use Rattle.job.specs.Outcome.{head_verdict, record_head, record_verdict, end_verdict}

-- how many bytes the header asks for: of version 1 the limit's too, to see whether it is there
unfoldable pub head_asks : List ℕ → ℕ
head_asks window = cond (eqb (version_in window) 1) (suc (limit_of 1)) 7

-- how many bytes a record asks for: all of it; its kind alone where there is no such kind, and one more where that one is refused
unfoldable pub record_asks : List ℕ → ℕ
record_asks window =
    cond (is_kind (get_or window 0 0)) (cond (eqb (second_verdict (get_or window 0 0) (get_or window 1 0)).number 0) (size_in window) 2) 1

-- a window begins at an offset of the file. It reaches the file's end, or holds the bytes that are asked for as far as the limit's, with that one
pub record Window (limit : ℕ) (file : List ℕ) (offset asked : ℕ) (window : List ℕ) : Type 0 where
  pub behind : List ℕ
  pub cut : drop offset file ≡ window ++ behind
  pub holds : (behind ≡ [] → ⊥) → min (offset + asked) (suc limit) ≤ offset + length window

-- what a call answers for such a window is what the file is told, however it is cut
pub record SameHead (window file : List ℕ) : Type 0 where
  pub verdict : head_verdict window ≡ head_verdict file
  pub version : version_in window ≡ version_in file
  pub count : count_in (width_of (version_in window)) window ≡ count_in (width_of (version_in window)) file

abbrev pub First : List ℕ → List ℕ → Type 0
First file window = Window (limit_of (version_in window)) file 0 (head_asks window) window

abbrev pub WindowOpens : Type 0
WindowOpens = (file window : List ℕ) → First file window → SameHead window file

pub record Same (limit offset : ℕ) (window rest : List ℕ) : Type 0 where
  pub verdict : record_verdict limit offset window ≡ record_verdict limit offset rest
  pub size : (record_head limit offset window).number ≡ 0 → size_in window ≡ size_in rest
  pub bytes : (record_head limit offset window).number ≡ 0 → record_in window ≡ record_in rest

abbrev pub WindowRuns : Type 0
WindowRuns = (limit : ℕ) (file : List ℕ) (offset : ℕ) (window : List ℕ) → Window limit file offset (record_asks window) window → Same limit offset window (drop offset file)

abbrev pub WindowEnds : Type 0
WindowEnds = (limit : ℕ) (file : List ℕ) (offset : ℕ) (window : List ℕ) → Window limit file offset 1 window → end_verdict limit offset window ≡ end_verdict limit offset (drop offset file)

-- no record asks for more than 1284 bytes, so that a window of so many is always enough
abbrev pub RecordAsksFew : Type 0
RecordAsksFew = (window : List ℕ) → get_or window 1 0 < 256 → record_asks window ≤ 1284
