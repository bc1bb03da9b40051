-- docs/RULES.md, 'Compressed frames': what each call on a compressed frame answers and leaves in each lent run, for all inputs.
-- Assumes nothing.
use Rattle.std.specs.Prelude.{ℕ, ◌*◌, ◌≡◌, Bool, cond, List, [], ◌∷◌, length, eqb, ltb}
use Rattle.run.specs.Verdict.{Verdict}
use Rattle.run.specs.Digits.{dtx}
use Rattle.run.specs.First.{at_most, is_at}
use Rattle.run.specs.Parts.{part}
use Rattle.run.specs.Refusals.{format_refused, digit_refused, frame_refused, gap_refused}
use Rattle.run.specs.Verdicts.{or_else, unless, each, lengths, chain, leaves}
use Rattle.dpch.specs.declared.Format.{Format}
use Rattle.dpch.specs.Compressed.{format_in}
use Rattle.slot.specs.Rule.{data_size}
use Rattle.frame.specs.Outcome.{slot_fields, slot_digits}
use Rattle.compressed.specs.Rule.{is_missing, transmitted, gap_stands, frame_of, data_in, tfci_in, commands_in}

-- both calls begin with 1, for a row that the table lacks or that is a normal one; 27; 3, in the order of the call
unfoldable pub gap_head : Format → ℕ → ℕ → List Bool → Verdict
gap_head f first missing right =
    or_else (unless (ltb 0 f.kind) format_refused 0)
    (or_else (unless (gap_stands f first missing) gap_refused 0)
    (lengths right))

-- map: 1, 27, 3 (data, TFCI, output, commands) ..
unfoldable pub map_head : Format → ℕ → ℕ → ℕ → ℕ → ℕ → ℕ → Verdict
map_head f first missing dataLength tfciLength outLength commandsLength =
    gap_head f first missing
    (eqb dataLength (transmitted missing * data_size f)
    ∷ eqb tfciLength (transmitted missing * f.tfci)
    ∷ eqb outLength (15 * f.slot)
    ∷ eqb commandsLength (transmitted missing)
    ∷ [])

-- .. then transmitted slot by transmitted slot, as in a frame without a gap: 5 at the index in the commands, the other places in the whole runs
unfoldable pub map_verdict : Format → ℕ → ℕ → List ℕ → List ℕ → ℕ → List ℕ → Verdict
map_verdict f first missing d tfci outLength commands =
    or_else (map_head f first missing (length d) (length tfci) outLength (length commands)) (chain (transmitted missing) (slot_fields f d tfci commands))

pub record Map (format kind first missing : ℕ) (d tfci out commands : List ℕ) (answer : Verdict) (out_after : List ℕ) : Type 0 where
  pub verdict_is : answer ≡ map_verdict (format_in kind format) first missing d tfci (length out) commands
  pub out_is : out_after ≡ leaves (map_verdict (format_in kind format) first missing d tfci (length out) commands) (frame_of (format_in kind format) first missing d tfci commands) out

-- read: 1, 27, 3 (frame, data, TFCI, commands) ..
unfoldable pub read_head : Format → ℕ → ℕ → ℕ → ℕ → ℕ → ℕ → Verdict
read_head f first missing frameLength dataLength tfciLength commandsLength =
    gap_head f first missing
    (eqb frameLength (15 * f.slot)
    ∷ eqb dataLength (transmitted missing * data_size f)
    ∷ eqb tfciLength (transmitted missing * f.tfci)
    ∷ eqb commandsLength (transmitted missing)
    ∷ [])

-- .. then slot by slot: of a missing slot 4 above 2, then 9 at its first digit other than DTX; of any other the checks of a slot's digits. Places index the frame
unfoldable pub silent_verdict : List ℕ → ℕ → Verdict
silent_verdict xs base = or_else (each base digit_refused (at_most 2 xs) (length xs)) (each base frame_refused (is_at dtx xs) (length xs))

unfoldable pub slot_verdict : Format → ℕ → ℕ → List ℕ → ℕ → Verdict
slot_verdict f first missing xs k = cond (is_missing first missing k) (silent_verdict (part k f.slot xs) (k * f.slot)) (slot_digits f xs k)

unfoldable pub read_verdict : Format → ℕ → ℕ → List ℕ → ℕ → ℕ → ℕ → Verdict
read_verdict f first missing xs dataLength tfciLength commandsLength =
    or_else (read_head f first missing (length xs) dataLength tfciLength commandsLength) (chain 15 (slot_verdict f first missing xs))

pub record Read (format kind first missing : ℕ) (xs d tfci commands : List ℕ) (answer : Verdict) (d_after tfci_after commands_after : List ℕ) : Type 0 where
  pub verdict_is : answer ≡ read_verdict (format_in kind format) first missing xs (length d) (length tfci) (length commands)
  pub data_is : d_after ≡ leaves (read_verdict (format_in kind format) first missing xs (length d) (length tfci) (length commands)) (data_in (format_in kind format) first missing xs) d
  pub tfci_is : tfci_after ≡ leaves (read_verdict (format_in kind format) first missing xs (length d) (length tfci) (length commands)) (tfci_in (format_in kind format) first missing xs) tfci
  pub commands_is : commands_after ≡ leaves (read_verdict (format_in kind format) first missing xs (length d) (length tfci) (length commands)) (commands_in (format_in kind format) first missing xs) commands
