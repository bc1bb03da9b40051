-- docs/RULES.md, 'DPCH on the second antenna': what each call answers and leaves in each lent run, for all inputs.
-- Assumes nothing.
use Rattle.std.specs.Prelude.{ℕ, ◌≡◌, cond, List, [], ◌∷◌, length, eqb, leb}
use Rattle.run.specs.Verdict.{Verdict}
use Rattle.run.specs.First.{at_most, agree}
use Rattle.run.specs.Refusals.{format_refused, slot_refused, range_refused, digit_refused, frame_refused}
use Rattle.run.specs.Verdicts.{or_else, unless, each, lengths, leaves}
use Rattle.dpch.specs.Command.{Command}
use Rattle.dpch.specs.Formats.{format_of}
use Rattle.dpch.specs.Heads.{slot_head}
use Rattle.slot.specs.Rule.{data_size, data_in, tfci_in, command_in}
use Rattle.slot.specs.Outcome.{fields_verdict, digits_verdict}
use Rattle.antenna.specs.Rule.{second_of, sent_of}

-- map: 1, 2, 11 (antenna above 1), 3 (data, TFCI, output) ..
unfoldable pub map_head : ℕ → ℕ → ℕ → ℕ → ℕ → ℕ → Verdict
map_head format slot antenna dataLength tfciLength outLength =
    or_else (unless (leb format 16) format_refused 0)
    (or_else (unless (leb slot 14) slot_refused 0)
    (or_else (unless (leb antenna 1) range_refused 0)
    (lengths
    (eqb dataLength (data_size (format_of format))
    ∷ eqb tfciLength (format_of format).tfci
    ∷ eqb outLength (format_of format).slot
    ∷ []))))

-- .. 5, TFCI 4, 6, data 4
unfoldable pub map_verdict : ℕ → ℕ → ℕ → ℕ → List ℕ → List ℕ → ℕ → Verdict
map_verdict format slot antenna tpc d tfci outLength =
    or_else (map_head format slot antenna (length d) (length tfci) outLength) (fields_verdict tpc d tfci 0 0 0)

pub record Map (format slot antenna tpc : ℕ) (d tfci out : List ℕ) (answer : Verdict) (out_after : List ℕ) : Type 0 where
  pub verdict_is : answer ≡ map_verdict format slot antenna tpc d tfci (length out)
  pub out_is : out_after ≡ leaves (map_verdict format slot antenna tpc d tfci (length out)) (sent_of format slot antenna tpc d tfci) out

-- read: 1, 2, 3 (first stream, second stream, data, TFCI) ..
unfoldable pub read_head : ℕ → ℕ → ℕ → ℕ → ℕ → ℕ → Verdict
read_head format slot firstLength secondLength dataLength tfciLength =
    slot_head 16 format slot
    (eqb firstLength (format_of format).slot
    ∷ eqb secondLength (format_of format).slot
    ∷ eqb dataLength (data_size (format_of format))
    ∷ eqb tfciLength (format_of format).tfci
    ∷ [])

-- .. 4 above 2 in either stream, the second's places from the slot length on; 5, 6, 7 as in reading the first stream alone, whose 4 has been told by then; 9 where the second stream is not
-- what the first one's fields give
unfoldable pub read_body : ℕ → ℕ → List ℕ → List ℕ → Verdict
read_body format slot first second =
    or_else (each 0 digit_refused (at_most 2 first) (length first))
    (or_else (each (format_of format).slot digit_refused (at_most 2 second) (length second))
    (or_else (digits_verdict (format_of format) slot first 0)
    (each (format_of format).slot frame_refused (agree (second_of format slot first) second) (format_of format).slot)))

unfoldable pub read_verdict : ℕ → ℕ → List ℕ → List ℕ → ℕ → ℕ → Verdict
read_verdict format slot first second dataLength tfciLength =
    or_else (read_head format slot (length first) (length second) dataLength tfciLength) (read_body format slot first second)

pub record Read (format slot : ℕ) (first second d tfci : List ℕ) (answer : Command) (d_after tfci_after : List ℕ) : Type 0 where
  pub verdict_is : answer.verdict ≡ read_verdict format slot first second (length d) (length tfci)
  pub command_is : answer.tpc ≡ leaves (read_verdict format slot first second (length d) (length tfci)) (command_in (format_of format) first) 0
  pub data_is : d_after ≡ leaves (read_verdict format slot first second (length d) (length tfci)) (data_in (format_of format) first) d
  pub tfci_is : tfci_after ≡ leaves (read_verdict format slot first second (length d) (length tfci)) (tfci_in (format_of format) first) tfci

-- the part `second_of`: antenna 2's digits over a run of the slot's length, whatever digits antenna 1 has; runs of another length leave it as it was
unfoldable pub second_over : ℕ → ℕ → List ℕ → List ℕ → List ℕ
second_over format slot first out =
    cond (eqb (length first) (format_of format).slot) (cond (eqb (length out) (format_of format).slot) (second_of format slot first) out) out
