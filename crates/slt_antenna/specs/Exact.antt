-- What an answer of a C call tells, and that a promise allows one outcome. Proved in proofs/Exact.antt, each under its name in small letters.
-- Assumes nothing.
use Rattle.std.specs.Prelude.{ℕ, ◌≡◌, List, length}
use Rattle.run.specs.Verdicts.{leaves}
use Rattle.dpch.specs.Formats.{format_of}
use Rattle.slot.specs.Rule.{command_in}
use Rattle.antenna.specs.Outcome.{map_verdict, read_verdict}
use Rattle.packed.specs.Exact.{Tells}
use Rattle.slt_antenna.specs.Outcome.{SlotMapAntenna, SlotReadAntennas}

-- what an answer tells of the call
pub record AntennaTells : Type 0 where
  pub map : (format slot antenna tpc : ℕ) (d tfci out : List ℕ) (answer : ℕ) (after : List ℕ) → SlotMapAntenna format slot antenna tpc d tfci out answer after
      → Tells answer (map_verdict format slot antenna tpc d tfci (length out)) 0
  pub read : (format slot : ℕ) (first second d tfci : List ℕ) (answer : ℕ) (x t : List ℕ) → SlotReadAntennas format slot first second d tfci answer x t
      → Tells answer (read_verdict format slot first second (length d) (length tfci)) (leaves (read_verdict format slot first second (length d) (length tfci)) (command_in (format_of format) first) 0)

-- two outcomes that a promise allows are equal
pub record AntennaOnce : Type 0 where
  pub map : (format slot antenna tpc : ℕ) (d tfci out : List ℕ) (a b : ℕ) (x y : List ℕ) → SlotMapAntenna format slot antenna tpc d tfci out a x
      → SlotMapAntenna format slot antenna tpc d tfci out b y → (a ≡ b) × (x ≡ y)
  pub read : (format slot : ℕ) (first second d tfci : List ℕ) (a b : ℕ) (x y s t : List ℕ) → SlotReadAntennas format slot first second d tfci a x s
      → SlotReadAntennas format slot first second d tfci b y t → (a ≡ b) × (x ≡ y) × (s ≡ t)
