-- docs/RULES.md, 'Uplink DPCCH': what each call answers and leaves in each lent run, for all inputs.
-- Assumes nothing.
use Rattle.std.specs.Prelude.{ℕ, ◌+◌, ◌*◌, ◌≡◌, Bool, cond, ◌&&◌, List, [], ◌∷◌, length, get_or, eqb, leb}
use Rattle.run.specs.Verdict.{Verdict}
use Rattle.run.specs.First.{at_most, like_first, agree}
use Rattle.run.specs.Fields.{start}
use Rattle.run.specs.Parts.{part}
use Rattle.run.specs.Refusals.{length_refused, digit_refused, tpc_refused, pilot_refused}
use Rattle.run.specs.Verdicts.{or_else, unless, each, chain, leaves}
use Rattle.dpch.specs.declared.Dpcch.{Dpcch}
use Rattle.dpch.specs.Command.{Command}
use Rattle.dpch.specs.Heads.{slot_head, frame_head}
use Rattle.dpch.specs.Uplink.{dpcch_format, dpcch_widths}
use Rattle.dpch.specs.UplinkPilots.{dpcch_pilot}
use Rattle.dpcch.specs.Rule.{slot_of, pilot_in, tfci_in, fbi_in, tpc_in, command_in, frame_of, frame_tfci_in, frame_fbi_in, commands_in}

-- ---- a slot

-- map: 1, 2, 3 (TFCI, FBI, output) ..
unfoldable pub map_head : ℕ → ℕ → ℕ → ℕ → ℕ → Verdict
map_head format slot tfciLength fbiLength outLength =
    slot_head 3 format slot
    (eqb tfciLength (dpcch_format format).tfci
    ∷ eqb fbiLength (dpcch_format format).fbi
    ∷ eqb outLength (dpcch_format format).slot
    ∷ [])

-- .. 5, then TFCI 4 above 1, then FBI 4 above 1. The places of command, TFCI and FBI count from where they stand in their runs
unfoldable pub fields_verdict : ℕ → List ℕ → List ℕ → ℕ → ℕ → ℕ → Verdict
fields_verdict tpc tfci fbi tpcPlace tfciBase fbiBase =
    or_else (unless (leb tpc 1) tpc_refused tpcPlace)
    (or_else (each tfciBase digit_refused (at_most 1 tfci) (length tfci))
    (each fbiBase digit_refused (at_most 1 fbi) (length fbi)))

unfoldable pub map_verdict : ℕ → ℕ → ℕ → List ℕ → List ℕ → ℕ → Verdict
map_verdict format slot tpc tfci fbi outLength =
    or_else (map_head format slot (length tfci) (length fbi) outLength) (fields_verdict tpc tfci fbi 0 0 0)

pub record Map (format slot tpc : ℕ) (tfci fbi out : List ℕ) (answer : Verdict) (out_after : List ℕ) : Type 0 where
  pub verdict_is : answer ≡ map_verdict format slot tpc tfci fbi (length out)
  pub out_is : out_after ≡ leaves (map_verdict format slot tpc tfci fbi (length out)) (slot_of (dpcch_format format) slot tpc tfci fbi) out

-- whether the table has the format, and TFCI, FBI and slot have its lengths
unfoldable pub sizes_are : ℕ → ℕ → ℕ → ℕ → Bool
sizes_are format tfciLength fbiLength slotLength =
    leb format 3 && (eqb tfciLength (dpcch_format format).tfci && (eqb fbiLength (dpcch_format format).fbi && eqb slotLength (dpcch_format format).slot))

-- the part that writes a slot with no look at its digits; where the lengths are others, nothing is written
pub record Put (format slot tpc : ℕ) (tfci fbi out out_after : List ℕ) : Type 0 where
  pub out_is : out_after ≡ cond (sizes_are format (length tfci) (length fbi) (length out)) (slot_of (dpcch_format format) slot tpc tfci fbi) out

-- read: 1, 2, 3 (slot, TFCI, FBI) ..
unfoldable pub read_head : ℕ → ℕ → ℕ → ℕ → ℕ → Verdict
read_head format slot slotLength tfciLength fbiLength =
    slot_head 3 format slot
    (eqb slotLength (dpcch_format format).slot
    ∷ eqb tfciLength (dpcch_format format).tfci
    ∷ eqb fbiLength (dpcch_format format).fbi
    ∷ [])

-- .. 4 above 1, 5 (first TPC digit unlike the first; none is DTX by now), 7; the slot's places count from base
unfoldable pub digits_verdict : Dpcch → ℕ → List ℕ → ℕ → Verdict
digits_verdict f slot xs base =
    or_else (each base digit_refused (at_most 1 xs) (length xs))
    (or_else (each (base + start 3 (dpcch_widths f)) tpc_refused (like_first (tpc_in f xs)) (length (tpc_in f xs)))
    (each (base + start 0 (dpcch_widths f)) pilot_refused (agree (pilot_in f xs) (dpcch_pilot f.pilot slot)) (length (pilot_in f xs))))

unfoldable pub read_verdict : ℕ → ℕ → List ℕ → ℕ → ℕ → Verdict
read_verdict format slot xs tfciLength fbiLength =
    or_else (read_head format slot (length xs) tfciLength fbiLength) (digits_verdict (dpcch_format format) slot xs 0)

pub record Read (format slot : ℕ) (xs tfci fbi : List ℕ) (answer : Command) (tfci_after fbi_after : List ℕ) : Type 0 where
  pub verdict_is : answer.verdict ≡ read_verdict format slot xs (length tfci) (length fbi)
  pub command_is : answer.tpc ≡ leaves (read_verdict format slot xs (length tfci) (length fbi)) (command_in (dpcch_format format) xs) 0
  pub tfci_is : tfci_after ≡ leaves (read_verdict format slot xs (length tfci) (length fbi)) (tfci_in (dpcch_format format) xs) tfci
  pub fbi_is : fbi_after ≡ leaves (read_verdict format slot xs (length tfci) (length fbi)) (fbi_in (dpcch_format format) xs) fbi

-- the part that checks a slot's digits, with places counted from base: a run that is no slot of the format is refused as such
unfoldable pub part_verdict : ℕ → ℕ → List ℕ → ℕ → Verdict
part_verdict format slot xs base =
    or_else (unless (eqb (length xs) (dpcch_format format).slot) length_refused 0) (digits_verdict (dpcch_format format) slot xs base)

-- the part that takes the fields out of a slot with no look at their digits, and answers the command; where the lengths are others, 0, and nothing is taken
pub record Take (format : ℕ) (xs tfci fbi : List ℕ) (answer : ℕ) (tfci_after fbi_after : List ℕ) : Type 0 where
  pub command_is : answer ≡ cond (sizes_are format (length tfci) (length fbi) (length xs)) (command_in (dpcch_format format) xs) 0
  pub tfci_is : tfci_after ≡ cond (sizes_are format (length tfci) (length fbi) (length xs)) (tfci_in (dpcch_format format) xs) tfci
  pub fbi_is : fbi_after ≡ cond (sizes_are format (length tfci) (length fbi) (length xs)) (fbi_in (dpcch_format format) xs) fbi

-- ---- a frame

-- map: 1, 3 (TFCI, FBI, output, commands) ..
unfoldable pub frame_map_head : ℕ → ℕ → ℕ → ℕ → ℕ → Verdict
frame_map_head format tfciLength fbiLength outLength commandsLength =
    frame_head 3 format
    (eqb tfciLength (15 * (dpcch_format format).tfci)
    ∷ eqb fbiLength (15 * (dpcch_format format).fbi)
    ∷ eqb outLength (15 * (dpcch_format format).slot)
    ∷ eqb commandsLength 15
    ∷ [])

-- .. then slot by slot, as for a slot: 5 at the slot, the other places in the whole runs
abbrev pub slot_fields : ℕ → List ℕ → List ℕ → List ℕ → ℕ → Verdict
slot_fields format tfci fbi commands k =
    fields_verdict (get_or commands k 0) (part k (dpcch_format format).tfci tfci) (part k (dpcch_format format).fbi fbi)
    k (k * (dpcch_format format).tfci) (k * (dpcch_format format).fbi)

unfoldable pub frame_map_verdict : ℕ → List ℕ → List ℕ → ℕ → List ℕ → Verdict
frame_map_verdict format tfci fbi outLength commands =
    or_else (frame_map_head format (length tfci) (length fbi) outLength (length commands)) (chain 15 (slot_fields format tfci fbi commands))

pub record FrameMap (format : ℕ) (tfci fbi out commands : List ℕ) (answer : Verdict) (out_after : List ℕ) : Type 0 where
  pub verdict_is : answer ≡ frame_map_verdict format tfci fbi (length out) commands
  pub out_is : out_after ≡ leaves (frame_map_verdict format tfci fbi (length out) commands) (frame_of (dpcch_format format) tfci fbi commands) out

-- read: 1, 3 (frame, TFCI, FBI, commands) ..
unfoldable pub frame_read_head : ℕ → ℕ → ℕ → ℕ → ℕ → Verdict
frame_read_head format frameLength tfciLength fbiLength commandsLength =
    frame_head 3 format
    (eqb frameLength (15 * (dpcch_format format).slot)
    ∷ eqb tfciLength (15 * (dpcch_format format).tfci)
    ∷ eqb fbiLength (15 * (dpcch_format format).fbi)
    ∷ eqb commandsLength 15
    ∷ [])

-- .. then slot by slot, as for a slot; places index the frame
abbrev pub slot_digits : ℕ → List ℕ → ℕ → Verdict
slot_digits format xs k = digits_verdict (dpcch_format format) k (part k (dpcch_format format).slot xs) (k * (dpcch_format format).slot)

unfoldable pub frame_read_verdict : ℕ → List ℕ → ℕ → ℕ → ℕ → Verdict
frame_read_verdict format xs tfciLength fbiLength commandsLength =
    or_else (frame_read_head format (length xs) tfciLength fbiLength commandsLength) (chain 15 (slot_digits format xs))

pub record FrameRead (format : ℕ) (xs tfci fbi commands : List ℕ) (answer : Verdict) (tfci_after fbi_after commands_after : List ℕ) : Type 0 where
  pub verdict_is : answer ≡ frame_read_verdict format xs (length tfci) (length fbi) (length commands)
  pub tfci_is : tfci_after ≡ leaves (frame_read_verdict format xs (length tfci) (length fbi) (length commands)) (frame_tfci_in (dpcch_format format) xs) tfci
  pub fbi_is : fbi_after ≡ leaves (frame_read_verdict format xs (length tfci) (length fbi) (length commands)) (frame_fbi_in (dpcch_format format) xs) fbi
  pub commands_is : commands_after ≡ leaves (frame_read_verdict format xs (length tfci) (length fbi) (length commands)) (commands_in (dpcch_format format) xs) commands
