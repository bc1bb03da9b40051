-- docs/RULES.md, 'Job file and program': what can be wrong with a job file itself, and the number and offset of each case.
-- Assumes nothing.
use Rattle.std.specs.Prelude.{Bool, cond}
use Rattle.run.specs.Verdict.{Verdict}
use Rattle.run.specs.Refusals.{over_long_refused, mark_refused, version_refused, kind_refused, ends_early_refused, bytes_after_refused}
use Rattle.run.specs.Verdicts.{refused, done}
use Rattle.job.specs.declared.fault.Fault.{Fault}
use Rattle.job.specs.declared.fault.Fault.TheVariants.{OverLong, WrongMark, UnknownVersion, UnknownKind, EndsEarly, BytesAfter}

-- each case has a number of its own; the place is a byte offset
unfoldable pub verdict_of : Fault → Verdict
verdict_of (OverLong limit) = refused over_long_refused limit
verdict_of (WrongMark offset) = refused mark_refused offset
verdict_of (UnknownVersion offset) = refused version_refused offset
verdict_of (UnknownKind offset) = refused kind_refused offset
verdict_of (EndsEarly offset) = refused ends_early_refused offset
verdict_of (BytesAfter offset) = refused bytes_after_refused offset

-- refused for the fault where the test fails
unfoldable pub check : Bool → Fault → Verdict
check ok fault = cond ok done (verdict_of fault)
