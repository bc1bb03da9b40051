-- The uplink DPCCH for C: the answer of the call behind each function, packed, and the same lent runs (docs/RULES.md, 'Packed answers').
-- Assumes nothing.
use Rattle.std.specs.Prelude.{ℕ, ◌≡◌, List, length}
use Rattle.run.specs.Verdicts.{leaves}
use Rattle.dpch.specs.Uplink.{dpcch_format}
use Rattle.dpcch.specs.Rule.{slot_of, tfci_in, fbi_in, command_in, frame_of, frame_tfci_in, frame_fbi_in, commands_in}
use Rattle.dpcch.specs.Outcome.{map_verdict, read_verdict, frame_map_verdict, frame_read_verdict}
use Rattle.packed.specs.Rule.{packed}

pub record DpcchMap (format slot tpc : ℕ) (tfci fbi out : List ℕ) (answer : ℕ) (out_after : List ℕ) : Type 0 where
  pub answer_is : answer ≡ packed (map_verdict format slot tpc tfci fbi (length out)) 0
  pub out_is : out_after ≡ leaves (map_verdict format slot tpc tfci fbi (length out)) (slot_of (dpcch_format format) slot tpc tfci fbi) out

-- the value is the TPC command
pub record DpcchRead (format slot : ℕ) (xs tfci fbi : List ℕ) (answer : ℕ) (tfci_after fbi_after : List ℕ) : Type 0 where
  pub answer_is : answer ≡ packed (read_verdict format slot xs (length tfci) (length fbi)) (leaves (read_verdict format slot xs (length tfci) (length fbi)) (command_in (dpcch_format format) xs) 0)
  pub tfci_is : tfci_after ≡ leaves (read_verdict format slot xs (length tfci) (length fbi)) (tfci_in (dpcch_format format) xs) tfci
  pub fbi_is : fbi_after ≡ leaves (read_verdict format slot xs (length tfci) (length fbi)) (fbi_in (dpcch_format format) xs) fbi

pub record DpcchFrameMap (format : ℕ) (tfci fbi out commands : List ℕ) (answer : ℕ) (out_after : List ℕ) : Type 0 where
  pub answer_is : answer ≡ packed (frame_map_verdict format tfci fbi (length out) commands) 0
  pub out_is : out_after ≡ leaves (frame_map_verdict format tfci fbi (length out) commands) (frame_of (dpcch_format format) tfci fbi commands) out

pub record DpcchFrameRead (format : ℕ) (xs tfci fbi commands : List ℕ) (answer : ℕ) (tfci_after fbi_after commands_after : List ℕ) : Type 0 where
  pub answer_is : answer ≡ packed (frame_read_verdict format xs (length tfci) (length fbi) (length commands)) 0
  pub tfci_is : tfci_after ≡ leaves (frame_read_verdict format xs (length tfci) (length fbi) (length commands)) (frame_tfci_in (dpcch_format format) xs) tfci
  pub fbi_is : fbi_after ≡ leaves (frame_read_verdict format xs (length tfci) (length fbi) (length commands)) (frame_fbi_in (dpcch_format format) xs) fbi
  pub commands_is : commands_after ≡ leaves (frame_read_verdict format xs (length tfci) (length fbi) (length commands)) (commands_in (dpcch_format format) xs) commands
