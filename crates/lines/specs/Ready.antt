-- What the parts of a record's writer need of it.
-- Assumes nothing.
use Rattle.std.specs.Prelude.{ℕ, ◌+◌, ◌≤◌, ◌≡◌, true, List, length, get_or}
use Rattle.dpch.specs.Formats.{format_of}
use Rattle.run.specs.Verdict.{Verdict}
use Rattle.run.specs.Verdicts.{leaves}
use Rattle.slot.specs.Rule.{data_size, slot_of}
use Rattle.slot.specs.Outcome.{map_verdict as slot_verdict}
use Rattle.kinds.specs.Rule.{aich_kind, pich_kind, dpch_kind, is_kind, size_of, second_verdict}
use Rattle.lines.specs.Rule.{second_of, slot_number_of, tpc_of, data_of, tfci_of}
use Rattle.lines.specs.Outcome.{line_size}

-- a whole record, which `is_whole` says it is
pub record Whole (r : List ℕ) : Type 0 where
  pub kind_ok : is_kind (get_or r 0 0) ≡ true
  pub second_ok : (second_verdict (get_or r 0 0) (second_of r)).number ≡ 0
  pub sized : length r ≡ size_of (get_or r 0 0) (second_of r)

-- .. of each kind
pub record AichRecord (r : List ℕ) : Type 0 where
  pub aich : get_or r 0 0 ≡ aich_kind
  pub sized : length r ≡ 17

pub record PichRecord (r : List ℕ) : Type 0 where
  pub pich : get_or r 0 0 ≡ pich_kind
  pub sized : length r ≡ 2 + second_of r

pub record DpchRecord (r : List ℕ) : Type 0 where
  pub dpch : get_or r 0 0 ≡ dpch_kind
  pub format_ok : second_of r ≤ 16
  pub sized : length r ≡ 4 + (format_of (second_of r)).tfci + data_size (format_of (second_of r))

-- the slot of a DPCH record's fields, where the mapper takes them
pub record MapsSlot (r digits : List ℕ) (answer : Verdict) (digits_after : List ℕ) : Type 0 where
  pub verdict_is : answer ≡ slot_verdict (second_of r) (slot_number_of r) (tpc_of r) (data_of r) (tfci_of r) (length digits)
  pub digits_is : digits_after ≡ leaves answer (slot_of (format_of (second_of r)) (slot_number_of r) (tpc_of r) (data_of r) (tfci_of r)) digits

-- a line in which every line has room
abbrev pub Roomy : List ℕ → Type 0
Roomy line = line_size ≤ length line
