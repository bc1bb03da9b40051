-- docs/RULES.md, 'DPCH slot': what each call answers and leaves in each lent run, for all inputs.
-- Assumes nothing.
use Rattle.std.specs.Prelude.{ℕ, ◌+◌, ◌≡◌, Bool, cond, ◌&&◌, List, [], ◌∷◌, length, eqb, leb, ltb}
use Rattle.run.specs.Verdict.{Verdict}
use Rattle.run.specs.First.{at_most, like_first, agree}
use Rattle.run.specs.Fields.{start}
use Rattle.run.specs.Refusals.{length_refused, digit_refused, tpc_refused, tfci_refused, pilot_refused}
use Rattle.run.specs.Verdicts.{or_else, unless, each, leaves}
use Rattle.dpch.specs.declared.Format.{Format}
use Rattle.dpch.specs.Command.{Command}
use Rattle.dpch.specs.Formats.{format_of, widths}
use Rattle.dpch.specs.Heads.{slot_head}
use Rattle.dpch.specs.Compressed.{pilot_for}
use Rattle.slot.specs.Rule.{data_size, slot_of, tpc_in, tfci_in, pilot_in, data_in, command_in, tfci_stands}

-- map: 1, 2, 3 (data, TFCI, output) ..
unfoldable pub map_head : ℕ → ℕ → ℕ → ℕ → ℕ → Verdict
map_head format slot dataLength tfciLength outLength =
    slot_head 16 format slot
    (eqb dataLength (data_size (format_of format))
    ∷ eqb tfciLength (format_of format).tfci
    ∷ eqb outLength (format_of format).slot
    ∷ [])

-- .. 5, then TFCI: 4 above 2, 6; then data 4 above 2. The places of command, TFCI and data count from where they stand in their runs
unfoldable pub fields_verdict : ℕ → List ℕ → List ℕ → ℕ → ℕ → ℕ → Verdict
fields_verdict tpc d tfci tpcPlace tfciBase dataBase =
    or_else (unless (leb tpc 1) tpc_refused tpcPlace)
    (or_else (each tfciBase digit_refused (at_most 2 tfci) (length tfci))
    (or_else (each tfciBase tfci_refused (tfci_stands tfci) (length tfci))
    (each dataBase digit_refused (at_most 2 d) (length d))))

unfoldable pub map_verdict : ℕ → ℕ → ℕ → List ℕ → List ℕ → ℕ → Verdict
map_verdict format slot tpc d tfci outLength =
    or_else (map_head format slot (length d) (length tfci) outLength) (fields_verdict tpc d tfci 0 0 0)

pub record Map (format slot tpc : ℕ) (d tfci out : List ℕ) (answer : Verdict) (out_after : List ℕ) : Type 0 where
  pub verdict_is : answer ≡ map_verdict format slot tpc d tfci (length out)
  pub out_is : out_after ≡ leaves (map_verdict format slot tpc d tfci (length out)) (slot_of (format_of format) slot tpc d tfci) out

-- the part that writes a slot with no look at its digits
pub record Put (format slot tpc : ℕ) (d tfci out : List ℕ) (answer : Verdict) (out_after : List ℕ) : Type 0 where
  pub verdict_is : answer ≡ map_head format slot (length d) (length tfci) (length out)
  pub out_is : out_after ≡ leaves (map_head format slot (length d) (length tfci) (length out)) (slot_of (format_of format) slot tpc d tfci) out

-- read: 1, 2, 3 (slot, data, TFCI) ..
unfoldable pub read_head : ℕ → ℕ → ℕ → ℕ → ℕ → Verdict
read_head format slot slotLength dataLength tfciLength =
    slot_head 16 format slot
    (eqb slotLength (format_of format).slot
    ∷ eqb dataLength (data_size (format_of format))
    ∷ eqb tfciLength (format_of format).tfci
    ∷ [])

-- .. 4 above 2, 5 (first TPC digit that is DTX or unlike the first), 6, 7; the slot's places count from base
unfoldable pub digits_verdict : Format → ℕ → List ℕ → ℕ → Verdict
digits_verdict f slot xs base =
    or_else (each base digit_refused (at_most 2 xs) (length xs))
    (or_else (each (base + start 1 (widths f)) tpc_refused (like_first (tpc_in f xs)) (length (tpc_in f xs)))
    (or_else (each (base + start 2 (widths f)) tfci_refused (tfci_stands (tfci_in f xs)) (length (tfci_in f xs)))
    (each (base + start 4 (widths f)) pilot_refused (agree (pilot_in f xs) (pilot_for f.kind f.pilot slot)) (length (pilot_in f xs)))))

unfoldable pub read_verdict : ℕ → ℕ → List ℕ → ℕ → ℕ → Verdict
read_verdict format slot xs dataLength tfciLength =
    or_else (read_head format slot (length xs) dataLength tfciLength) (digits_verdict (format_of format) slot xs 0)

pub record Read (format slot : ℕ) (xs d tfci : List ℕ) (answer : Command) (d_after tfci_after : List ℕ) : Type 0 where
  pub verdict_is : answer.verdict ≡ read_verdict format slot xs (length d) (length tfci)
  pub command_is : answer.tpc ≡ leaves (read_verdict format slot xs (length d) (length tfci)) (command_in (format_of format) xs) 0
  pub data_is : d_after ≡ leaves (read_verdict format slot xs (length d) (length tfci)) (data_in (format_of format) xs) d
  pub tfci_is : tfci_after ≡ leaves (read_verdict format slot xs (length d) (length tfci)) (tfci_in (format_of format) xs) tfci

-- the part that checks a slot's digits, with places counted from base: a run that is no slot of the row is refused as such
unfoldable pub part_verdict : Format → ℕ → List ℕ → ℕ → Verdict
part_verdict f slot xs base = or_else (unless (eqb (length xs) f.slot) length_refused 0) (digits_verdict f slot xs base)

-- the part that takes the fields out of a slot with no look at their digits
pub record Take (format slot : ℕ) (xs d tfci : List ℕ) (answer : Command) (d_after tfci_after : List ℕ) : Type 0 where
  pub verdict_is : answer.verdict ≡ read_head format slot (length xs) (length d) (length tfci)
  pub command_is : answer.tpc ≡ leaves (read_head format slot (length xs) (length d) (length tfci)) (command_in (format_of format) xs) 0
  pub data_is : d_after ≡ leaves (read_head format slot (length xs) (length d) (length tfci)) (data_in (format_of format) xs) d
  pub tfci_is : tfci_after ≡ leaves (read_head format slot (length xs) (length d) (length tfci)) (tfci_in (format_of format) xs) tfci

-- ---- the parts for a row of a compressed format: they ask no slot number and answer no verdict

-- whether the row is one of a compressed format, and data, TFCI and slot have its lengths
unfoldable pub sizes_are : Format → ℕ → ℕ → ℕ → Bool
sizes_are f dataLength tfciLength slotLength =
    ltb 0 f.kind && (eqb dataLength (data_size f) && (eqb tfciLength f.tfci && eqb slotLength f.slot))

-- .. that writes a slot with no look at its digits; where the lengths are others, nothing is written
pub record PutRow (f : Format) (slot tpc : ℕ) (d tfci out out_after : List ℕ) : Type 0 where
  pub out_is : out_after ≡ cond (sizes_are f (length d) (length tfci) (length out)) (slot_of f slot tpc d tfci) out

-- .. that takes the fields out of a slot with no look at their digits; where the lengths are others the command is 0 and nothing is taken
pub record TakeRow (f : Format) (xs d tfci : List ℕ) (command : ℕ) (d_after tfci_after : List ℕ) : Type 0 where
  pub command_is : command ≡ cond (sizes_are f (length d) (length tfci) (length xs)) (command_in f xs) 0
  pub data_is : d_after ≡ cond (sizes_are f (length d) (length tfci) (length xs)) (data_in f xs) d
  pub tfci_is : tfci_after ≡ cond (sizes_are f (length d) (length tfci) (length xs)) (tfci_in f xs) tfci
