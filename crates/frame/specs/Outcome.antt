-- docs/RULES.md, 'DPCH slot': what each call on a frame answers and leaves in each lent run, for all inputs.
-- Assumes nothing.
use Rattle.std.specs.Prelude.{ℕ, ◌*◌, ◌≡◌, List, [], ◌∷◌, length, get_or, eqb}
use Rattle.run.specs.Verdict.{Verdict}
use Rattle.run.specs.Parts.{part}
use Rattle.run.specs.Verdicts.{or_else, chain, leaves}
use Rattle.dpch.specs.declared.Format.{Format}
use Rattle.dpch.specs.Formats.{format_of}
use Rattle.dpch.specs.Heads.{frame_head}
use Rattle.slot.specs.Rule.{data_size}
use Rattle.slot.specs.Outcome.{fields_verdict, digits_verdict}
use Rattle.frame.specs.Rule.{frame_of, data_in, tfci_in, commands_in}

-- map: 1, 3 (data, TFCI, output, commands) ..
unfoldable pub map_head : ℕ → ℕ → ℕ → ℕ → ℕ → Verdict
map_head format dataLength tfciLength outLength commandsLength =
    frame_head 16 format
    (eqb dataLength (15 * data_size (format_of format))
    ∷ eqb tfciLength (15 * (format_of format).tfci)
    ∷ eqb outLength (15 * (format_of format).slot)
    ∷ eqb commandsLength 15
    ∷ [])

-- .. then slot by slot, as for a slot: 5 at the slot, the other places in the whole runs
abbrev pub slot_fields : Format → List ℕ → List ℕ → List ℕ → ℕ → Verdict
slot_fields f d tfci commands k =
    fields_verdict (get_or commands k 0) (part k (data_size f) d) (part k f.tfci tfci) k (k * f.tfci) (k * data_size f)

unfoldable pub map_verdict : ℕ → List ℕ → List ℕ → ℕ → List ℕ → Verdict
map_verdict format d tfci outLength commands =
    or_else (map_head format (length d) (length tfci) outLength (length commands)) (chain 15 (slot_fields (format_of format) d tfci commands))

pub record Map (format : ℕ) (d tfci out commands : List ℕ) (answer : Verdict) (out_after : List ℕ) : Type 0 where
  pub verdict_is : answer ≡ map_verdict format d tfci (length out) commands
  pub out_is : out_after ≡ leaves (map_verdict format d tfci (length out) commands) (frame_of (format_of format) d tfci commands) out

-- read: 1, 3 (frame, data, TFCI, commands) ..
unfoldable pub read_head : ℕ → ℕ → ℕ → ℕ → ℕ → Verdict
read_head format frameLength dataLength tfciLength commandsLength =
    frame_head 16 format
    (eqb frameLength (15 * (format_of format).slot)
    ∷ eqb dataLength (15 * data_size (format_of format))
    ∷ eqb tfciLength (15 * (format_of format).tfci)
    ∷ eqb commandsLength 15
    ∷ [])

-- .. then slot by slot, as for a slot; places index the frame
abbrev pub slot_digits : Format → List ℕ → ℕ → Verdict
slot_digits f xs k = digits_verdict f k (part k f.slot xs) (k * f.slot)

unfoldable pub read_verdict : ℕ → List ℕ → ℕ → ℕ → ℕ → Verdict
read_verdict format xs dataLength tfciLength commandsLength =
    or_else (read_head format (length xs) dataLength tfciLength commandsLength) (chain 15 (slot_digits (format_of format) xs))

pub record Read (format : ℕ) (xs d tfci commands : List ℕ) (answer : Verdict) (d_after tfci_after commands_after : List ℕ) : Type 0 where
  pub verdict_is : answer ≡ read_verdict format xs (length d) (length tfci) (length commands)
  pub data_is : d_after ≡ leaves (read_verdict format xs (length d) (length tfci) (length commands)) (data_in (format_of format) xs) d
  pub tfci_is : tfci_after ≡ leaves (read_verdict format xs (length d) (length tfci) (length commands)) (tfci_in (format_of format) xs) tfci
  pub commands_is : commands_after ≡ leaves (read_verdict format xs (length d) (length tfci) (length commands)) (commands_in (format_of format) xs) commands
