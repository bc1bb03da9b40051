-- docs/RULES.md, 'Job file and program': the bytes of a job file. The kinds of its records stand in the crate `kinds`, and the lines that are printed in `lines`.
-- Assumes nothing.
use Rattle.std.specs.Prelude.{ℕ, zero, suc, ◌+◌, ◌*◌, Bool, cond, ◌||◌, List, eqb, get_or, take}
use Rattle.kinds.specs.Rule.{size_of}

-- the mark; the version as 16 bits, high byte first, of which the high byte is 0; the count of the records, high byte first; and the records
abbrev pub version_in : List ℕ → ℕ
version_in file = get_or file 4 0

unfoldable pub is_version : ℕ → Bool
is_version version = eqb version 1 || eqb version 2

-- how many bytes count the records, and how many bytes a file may have
unfoldable pub width_of : ℕ → ℕ
width_of version = cond (eqb version 1) 1 2

unfoldable pub limit_of : ℕ → ℕ
limit_of version = cond (eqb version 1) 65535 1048576

-- what so many bytes behind the version count, high byte first
unfoldable pub count_in : ℕ → List ℕ → ℕ
count_in zero file = 0
count_in (suc width) file = count_in width file * 256 + get_or file (5 + width) 0

abbrev pub first_record : ℕ → ℕ
first_record width = 5 + width

-- what stands in a file from a record on: the record's kind, and the byte behind it, say how long it is
abbrev pub size_in : List ℕ → ℕ
size_in rest = size_of (get_or rest 0 0) (get_or rest 1 0)

unfoldable pub record_in : List ℕ → List ℕ
record_in rest = take (size_in rest) rest
