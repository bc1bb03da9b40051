-- docs/RULES.md, 'Job file and program': the kinds of a record, what the byte behind each must be, and how long a record is.
-- Assumes nothing.
use Rattle.std.specs.Prelude.{ℕ, ◌+◌, Bool, cond, ◌||◌, eqb, leb}
use Rattle.run.specs.Verdict.{Verdict}
use Rattle.run.specs.Refusals.{format_refused, np_refused}
use Rattle.run.specs.Verdicts.{done, unless}
use Rattle.dpch.specs.Formats.{format_of}
use Rattle.slot.specs.Rule.{data_size}
use Rattle.pich.specs.Rule.{is_np}

-- kind 1 is AICH, 2 is PICH, 3 is DPCH
abbrev pub aich_kind : ℕ
aich_kind = 1

abbrev pub pich_kind : ℕ
pich_kind = 2

abbrev pub dpch_kind : ℕ
dpch_kind = 3

unfoldable pub is_kind : ℕ → Bool
is_kind kind = eqb kind aich_kind || eqb kind pich_kind || eqb kind dpch_kind

-- one of three by kind
unfoldable pub by_kind : {A : Type 0} → ℕ → A → A → A → A
by_kind kind aich pich dpch = cond (eqb kind aich_kind) aich (cond (eqb kind pich_kind) pich dpch)

-- the bytes of a record, its kind among them. AICH: kind, 16 bytes. PICH: kind, Np, indicators. DPCH: kind, format, slot, TPC, TFCI, data.
-- The byte behind the kind, Np or format, says how long a PICH or DPCH record is
unfoldable pub size_of : ℕ → ℕ → ℕ
size_of kind second = by_kind kind 17 (2 + second) (4 + (format_of second).tfci + data_size (format_of second))

-- a format that there is, else 1; an Np that there is, else 8: what the byte behind the kind must be. An AICH record has no such byte
unfoldable pub second_verdict : ℕ → ℕ → Verdict
second_verdict kind second = by_kind kind done (unless (is_np second) np_refused 0) (unless (leb second 16) format_refused 0)

-- shape_of: what a record's first two bytes say: whether there is such a kind, what is wrong with the byte behind it, and how many bytes it has
pub record Shape : Type 0 where
  pub known : Bool
  pub verdict : Verdict
  pub size : ℕ

unfoldable pub shape_of : ℕ → ℕ → Shape
shape_of kind second = record { known = is_kind kind; verdict = second_verdict kind second; size = size_of kind second }
