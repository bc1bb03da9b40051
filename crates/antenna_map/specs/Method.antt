-- What a private function of the mapper promises. Nothing here is part of a public promise.
-- Assumes nothing.
use Rattle.std.specs.Prelude.{ℕ, leb}
use Rattle.run.specs.Verdict.{Verdict}
use Rattle.run.specs.Refusals.{format_refused, slot_refused, range_refused}
use Rattle.run.specs.Verdicts.{refused, or_else, unless}

-- an antenna that there is not: 1, 2, else 11
unfoldable pub no_antenna : ℕ → ℕ → Verdict
no_antenna format slot = or_else (unless (leb format 16) format_refused 0) (or_else (unless (leb slot 14) slot_refused 0) (refused range_refused 0))
