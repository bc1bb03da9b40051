-- docs/RULES.md, 'Job file and program': the fields of a record in its own bytes, and the lines that are printed.
-- Assumes nothing.
use Rattle.std.specs.Prelude.{ℕ, ◌+◌, cond, List, [], ◌∷◌, ◌++◌, eqb, ℤ, pos, negsuc, get_or, take, drop}
use Rattle.run.specs.Verdict.{Verdict}
use Rattle.run.specs.Table.{tab}
use Rattle.dpch.specs.Formats.{format_of}
use Rattle.slot.specs.Rule.{slot_of}
use Rattle.pich.specs.Rule.{frame_of}
use Rattle.aich.specs.Rule.{values_of}
use Rattle.kinds.specs.Rule.{by_kind}
use Rattle.lines.specs.Text.{space, newline, number, spaced, row}

-- 0, 1 and 2 stand for 0, +1 and -1; any other byte stands for itself, which is a number that the AICH refuses
unfoldable pub indicator_of : ℕ → ℤ
indicator_of b = cond (eqb b 2) (negsuc 0) (pos b)

unfoldable pub indicators_of : List ℕ → List ℤ
indicators_of r = tab 16 (λ (s : ℕ). indicator_of (get_or r (1 + s) 0))

-- the fields of a PICH record and of a DPCH record
abbrev pub second_of : List ℕ → ℕ
second_of r = get_or r 1 0

abbrev pub paging_of : List ℕ → List ℕ
paging_of r = drop 2 r

abbrev pub slot_number_of : List ℕ → ℕ
slot_number_of r = get_or r 2 0

abbrev pub tpc_of : List ℕ → ℕ
tpc_of r = get_or r 3 0

abbrev pub tfci_of : List ℕ → List ℕ
tfci_of r = take (format_of (second_of r)).tfci (drop 4 r)

abbrev pub data_of : List ℕ → List ℕ
data_of r = drop (4 + (format_of (second_of r)).tfci) r

-- the words of the lines: 'SLT ', 'AICH', 'PICH ', 'DPCH ', 'refused '
abbrev pub mark_word : List ℕ
mark_word = 83 ∷ 76 ∷ 84 ∷ space ∷ []

abbrev pub aich_word : List ℕ
aich_word = 65 ∷ 73 ∷ 67 ∷ 72 ∷ []

abbrev pub pich_word : List ℕ
pich_word = 80 ∷ 73 ∷ 67 ∷ 72 ∷ space ∷ []

abbrev pub dpch_word : List ℕ
dpch_word = 68 ∷ 80 ∷ 67 ∷ 72 ∷ space ∷ []

abbrev pub refused_word : List ℕ
refused_word = 114 ∷ 101 ∷ 102 ∷ 117 ∷ 115 ∷ 101 ∷ 100 ∷ space ∷ []

-- the first line: mark, version, count
unfoldable pub head_line : ℕ → ℕ → List ℕ
head_line version count = mark_word ++ number version space ++ number count newline

-- the kind and the 32 values, with spaces
unfoldable pub aich_line : List ℤ → List ℕ
aich_line values = aich_word ++ spaced values ++ (newline ∷ [])

-- the kind, Np and the digits
unfoldable pub pich_line : ℕ → List ℕ → List ℕ
pich_line np frame = pich_word ++ number np space ++ row frame

-- the kind, format, slot and the digits
unfoldable pub dpch_line : ℕ → ℕ → List ℕ → List ℕ
dpch_line format slot digits = dpch_word ++ number format space ++ number slot space ++ row digits

-- the line of a record: what the mapper makes of its fields
unfoldable pub record_line : List ℕ → List ℕ
record_line r =
    by_kind (get_or r 0 0)
    (aich_line (values_of (indicators_of r)))
    (pich_line (second_of r) (frame_of (second_of r) (paging_of r)))
    (dpch_line (second_of r) (slot_number_of r) (slot_of (format_of (second_of r)) (slot_number_of r) (tpc_of r) (data_of r) (tfci_of r)))

-- a refusal's number and place
unfoldable pub refusal_line : Verdict → List ℕ
refusal_line v = refused_word ++ number v.number space ++ number v.place newline
