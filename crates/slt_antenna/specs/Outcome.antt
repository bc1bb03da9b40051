-- DPCH slots on two antennas for C: the answer of the call behind each function, packed, and the same lent runs (docs/RULES.md, 'Packed answers').
-- Assumes nothing.
use Rattle.std.specs.Prelude.{ℕ, ◌≡◌, List, length}
use Rattle.run.specs.Verdicts.{leaves}
use Rattle.dpch.specs.Formats.{format_of}
use Rattle.slot.specs.Rule.{tfci_in, data_in, command_in}
use Rattle.antenna.specs.Rule.{sent_of}
use Rattle.antenna.specs.Outcome.{map_verdict, read_verdict}
use Rattle.packed.specs.Rule.{packed}

pub record SlotMapAntenna (format slot antenna tpc : ℕ) (d tfci out : List ℕ) (answer : ℕ) (out_after : List ℕ) : Type 0 where
  pub answer_is : answer ≡ packed (map_verdict format slot antenna tpc d tfci (length out)) 0
  pub out_is : out_after ≡ leaves (map_verdict format slot antenna tpc d tfci (length out)) (sent_of format slot antenna tpc d tfci) out

-- the value is the TPC command
pub record SlotReadAntennas (format slot : ℕ) (first second d tfci : List ℕ) (answer : ℕ) (d_after tfci_after : List ℕ) : Type 0 where
  pub answer_is : answer ≡ packed (read_verdict format slot first second (length d) (length tfci)) (leaves (read_verdict format slot first second (length d) (length tfci)) (command_in (format_of format) first) 0)
  pub data_is : d_after ≡ leaves (read_verdict format slot first second (length d) (length tfci)) (data_in (format_of format) first) d
  pub tfci_is : tfci_after ≡ leaves (read_verdict format slot first second (length d) (length tfci)) (tfci_in (format_of format) first) tfci
