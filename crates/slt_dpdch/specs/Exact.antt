-- What an answer of a C call tells, and that a promise allows one outcome. Proved in proofs/Exact.antt, each under its name in small letters.
-- Assumes nothing.
use Rattle.std.specs.Prelude.{ℕ, ◌≡◌, List, length}
use Rattle.dpdch.specs.Outcome.{map_verdict, read_verdict, frame_map_verdict, frame_read_verdict}
use Rattle.packed.specs.Exact.{Tells}
use Rattle.slt_dpdch.specs.Outcome.{DpdchMap, DpdchRead, DpdchFrameMap, DpdchFrameRead}

-- what an answer tells of the call
pub record DpdchTells : Type 0 where
  pub map : (format : ℕ) (d out : List ℕ) (answer : ℕ) (after : List ℕ) → DpdchMap format d out answer after → Tells answer (map_verdict format d (length out)) 0
  pub read : (format : ℕ) (xs d : List ℕ) (answer : ℕ) (after : List ℕ) → DpdchRead format xs d answer after → Tells answer (read_verdict format xs (length d)) 0
  pub frame_map : (format : ℕ) (d out : List ℕ) (answer : ℕ) (after : List ℕ) → DpdchFrameMap format d out answer after → Tells answer (frame_map_verdict format d (length out)) 0
  pub frame_read : (format : ℕ) (xs d : List ℕ) (answer : ℕ) (after : List ℕ) → DpdchFrameRead format xs d answer after → Tells answer (frame_read_verdict format xs (length d)) 0

-- two outcomes that a promise allows are equal
pub record DpdchOnce : Type 0 where
  pub map : (format : ℕ) (d out : List ℕ) (a b : ℕ) (x y : List ℕ) → DpdchMap format d out a x → DpdchMap format d out b y → (a ≡ b) × (x ≡ y)
  pub read : (format : ℕ) (xs d : List ℕ) (a b : ℕ) (x y : List ℕ) → DpdchRead format xs d a x → DpdchRead format xs d b y → (a ≡ b) × (x ≡ y)
  pub frame_map : (format : ℕ) (d out : List ℕ) (a b : ℕ) (x y : List ℕ) → DpdchFrameMap format d out a x → DpdchFrameMap format d out b y → (a ≡ b) × (x ≡ y)
  pub frame_read : (format : ℕ) (xs d : List ℕ) (a b : ℕ) (x y : List ℕ) → DpdchFrameRead format xs d a x → DpdchFrameRead format xs d b y → (a ≡ b) × (x ≡ y)
