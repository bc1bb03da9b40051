-- DPCH frames for C: the answer of the call behind each function, packed, and the same lent runs (docs/RULES.md, 'Packed answers').
-- Assumes nothing.
use Rattle.std.specs.Prelude.{ℕ, ◌≡◌, List, length}
use Rattle.run.specs.Verdicts.{leaves}
use Rattle.dpch.specs.Formats.{format_of}
use Rattle.frame.specs.Rule.{frame_of, data_in, tfci_in, commands_in}
use Rattle.frame.specs.Outcome.{map_verdict, read_verdict}
use Rattle.packed.specs.Rule.{packed}

pub record FrameMap (format : ℕ) (d tfci out commands : List ℕ) (answer : ℕ) (out_after : List ℕ) : Type 0 where
  pub answer_is : answer ≡ packed (map_verdict format d tfci (length out) commands) 0
  pub out_is : out_after ≡ leaves (map_verdict format d tfci (length out) commands) (frame_of (format_of format) d tfci commands) out

pub record FrameRead (format : ℕ) (xs d tfci commands : List ℕ) (answer : ℕ) (d_after tfci_after commands_after : List ℕ) : Type 0 where
  pub answer_is : answer ≡ packed (read_verdict format xs (length d) (length tfci) (length commands)) 0
  pub data_is : d_after ≡ leaves (read_verdict format xs (length d) (length tfci) (length commands)) (data_in (format_of format) xs) d
  pub tfci_is : tfci_after ≡ leaves (read_verdict format xs (length d) (length tfci) (length commands)) (tfci_in (format_of format) xs) tfci
  pub commands_is : commands_after ≡ leaves (read_verdict format xs (length d) (length tfci) (length commands)) (commands_in (format_of format) xs) commands
