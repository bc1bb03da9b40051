-- docs/RULES.md, 'Job file and program': what is printed for a file. The first refusal ends the run; in the header or for version 1's length its line is the only one.
-- Assumes nothing.
use Rattle.std.specs.Prelude.{ℕ, zero, suc, ◌+◌, List, [], ◌++◌, drop}
use Rattle.run.specs.Verdicts.{leaves}
use Rattle.lines.specs.Rule.{head_line, record_line, refusal_line}
use Rattle.job.specs.Rule.{version_in, width_of, limit_of, count_in, first_record, size_in, record_in}
use Rattle.job.specs.Outcome.{head_verdict, record_verdict, end_verdict}

-- from an offset on, with n records left
unfoldable pub records : ℕ → ℕ → ℕ → List ℕ → List ℕ
records limit zero offset file = leaves (end_verdict limit offset (drop offset file)) [] (refusal_line (end_verdict limit offset (drop offset file)))
records limit (suc n) offset file =
    leaves (record_verdict limit offset (drop offset file))
    (record_line (record_in (drop offset file)) ++ records limit n (offset + size_in (drop offset file)) file)
    (refusal_line (record_verdict limit offset (drop offset file)))

-- over the width of the count and the limit, which the version says
unfoldable pub printed_as : ℕ → ℕ → List ℕ → List ℕ
printed_as width limit file =
    leaves (head_verdict file)
    (head_line (version_in file) (count_in width file) ++ records limit (count_in width file) (first_record width) file)
    (refusal_line (head_verdict file))

abbrev pub printed : List ℕ → List ℕ
printed file = printed_as (width_of (version_in file)) (limit_of (version_in file)) file
