-- What an answer of a C call tells, and that a promise allows one outcome. Proved in proofs/Exact.antt, each under its name in small letters.
-- Assumes nothing.
use Rattle.std.specs.Prelude.{ℕ, ◌≡◌, List, length}
use Rattle.run.specs.Verdicts.{leaves}
use Rattle.dpch.specs.Uplink.{dpcch_format}
use Rattle.dpcch.specs.Rule.{command_in}
use Rattle.dpcch.specs.Outcome.{map_verdict, read_verdict, frame_map_verdict, frame_read_verdict}
use Rattle.packed.specs.Exact.{Tells}
use Rattle.slt_dpcch.specs.Outcome.{DpcchMap, DpcchRead, DpcchFrameMap, DpcchFrameRead}

-- what an answer tells of the call
pub record DpcchTells : Type 0 where
  pub map : (format slot tpc : ℕ) (tfci fbi out : List ℕ) (answer : ℕ) (after : List ℕ) → DpcchMap format slot tpc tfci fbi out answer after
      → Tells answer (map_verdict format slot tpc tfci fbi (length out)) 0
  pub read : (format slot : ℕ) (xs tfci fbi : List ℕ) (answer : ℕ) (x t : List ℕ) → DpcchRead format slot xs tfci fbi answer x t
      → Tells answer (read_verdict format slot xs (length tfci) (length fbi)) (leaves (read_verdict format slot xs (length tfci) (length fbi)) (command_in (dpcch_format format) xs) 0)
  pub frame_map : (format : ℕ) (tfci fbi out commands : List ℕ) (answer : ℕ) (after : List ℕ) → DpcchFrameMap format tfci fbi out commands answer after
      → Tells answer (frame_map_verdict format tfci fbi (length out) commands) 0
  pub frame_read : (format : ℕ) (xs tfci fbi commands : List ℕ) (answer : ℕ) (x t u : List ℕ) → DpcchFrameRead format xs tfci fbi commands answer x t u
      → Tells answer (frame_read_verdict format xs (length tfci) (length fbi) (length commands)) 0

-- two outcomes that a promise allows are equal
pub record DpcchOnce : Type 0 where
  pub map : (format slot tpc : ℕ) (tfci fbi out : List ℕ) (a b : ℕ) (x y : List ℕ) → DpcchMap format slot tpc tfci fbi out a x → DpcchMap format slot tpc tfci fbi out b y
      → (a ≡ b) × (x ≡ y)
  pub read : (format slot : ℕ) (xs tfci fbi : List ℕ) (a b : ℕ) (x y s t : List ℕ) → DpcchRead format slot xs tfci fbi a x s → DpcchRead format slot xs tfci fbi b y t
      → (a ≡ b) × (x ≡ y) × (s ≡ t)
  pub frame_map : (format : ℕ) (tfci fbi out commands : List ℕ) (a b : ℕ) (x y : List ℕ) → DpcchFrameMap format tfci fbi out commands a x → DpcchFrameMap format tfci fbi out commands b y
      → (a ≡ b) × (x ≡ y)
  pub frame_read : (format : ℕ) (xs tfci fbi commands : List ℕ) (a b : ℕ) (x y s t u v : List ℕ) → DpcchFrameRead format xs tfci fbi commands a x s u
      → DpcchFrameRead format xs tfci fbi commands b y t v → (a ≡ b) × (x ≡ y) × (s ≡ t) × (u ≡ v)
