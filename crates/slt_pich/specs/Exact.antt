-- What an answer of a C call tells, and that a promise allows one outcome. Proved in proofs/Exact.antt, each under its name in small letters.
-- Assumes nothing.
use Rattle.std.specs.Prelude.{ℕ, ◌≡◌, List, length}
use Rattle.run.specs.Verdicts.{leaves}
use Rattle.pich.specs.Rule.{q_of}
use Rattle.pich.specs.Outcome.{q_verdict, map_verdict, read_verdict}
use Rattle.packed.specs.Exact.{Tells}
use Rattle.slt_pich.specs.Outcome.{PichQ, PichMap, PichRead}

-- what an answer tells of the call
pub record PichTells : Type 0 where
  pub q : (np pi sfn answer : ℕ) → PichQ np pi sfn answer → Tells answer (q_verdict np (record { 0 = pi }) sfn) (leaves (q_verdict np (record { 0 = pi }) sfn) (q_of np pi sfn) 0)
  pub map : (np : ℕ) (indicators frame : List ℕ) (answer : ℕ) (after : List ℕ) → PichMap np indicators frame answer after → Tells answer (map_verdict np indicators (length frame)) 0
  pub read : (np : ℕ) (frame indicators : List ℕ) (answer : ℕ) (after : List ℕ) → PichRead np frame indicators answer after → Tells answer (read_verdict np frame (length indicators)) 0

-- two outcomes that a promise allows are equal
pub record PichOnce : Type 0 where
  pub q : (np pi sfn a b : ℕ) → PichQ np pi sfn a → PichQ np pi sfn b → a ≡ b
  pub map : (np : ℕ) (indicators frame : List ℕ) (a b : ℕ) (x y : List ℕ) → PichMap np indicators frame a x → PichMap np indicators frame b y → (a ≡ b) × (x ≡ y)
  pub read : (np : ℕ) (frame indicators : List ℕ) (a b : ℕ) (x y : List ℕ) → PichRead np frame indicators a x → PichRead np frame indicators b y → (a ≡ b) × (x ≡ y)
