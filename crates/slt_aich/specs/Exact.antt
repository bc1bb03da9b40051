-- What an answer of a C call tells, and that a promise allows one outcome. Proved in proofs/Exact.antt, each under its name in small letters.
-- Assumes nothing.
use Rattle.std.specs.Prelude.{ℕ, ◌≡◌, List, length, ℤ}
use Rattle.aich.specs.Outcome.{map_verdict, read_verdict, map_available_verdict, read_available_verdict}
use Rattle.packed.specs.Exact.{Tells}
use Rattle.slt_aich.specs.Outcome.{AichMap, AichRead, AichMapAvailable, AichReadAvailable}

-- what an answer tells of the call
pub record AichTells : Type 0 where
  pub map : (indicators values : List ℤ) (answer : ℕ) (after : List ℤ) → AichMap indicators values answer after → Tells answer (map_verdict indicators (length values)) 0
  pub read : (values indicators : List ℤ) (answer : ℕ) (after : List ℤ) → AichRead values indicators answer after → Tells answer (read_verdict values (length indicators)) 0
  pub map_available : (available : ℕ) (indicators values : List ℤ) (answer : ℕ) (after : List ℤ) → AichMapAvailable available indicators values answer after → Tells answer (map_available_verdict available indicators (length values)) 0
  pub read_available : (available : ℕ) (values indicators : List ℤ) (answer : ℕ) (after : List ℤ) → AichReadAvailable available values indicators answer after → Tells answer (read_available_verdict available values (length indicators)) 0

-- two outcomes that a promise allows are equal
pub record AichOnce : Type 0 where
  pub map : (indicators values : List ℤ) (a b : ℕ) (x y : List ℤ) → AichMap indicators values a x → AichMap indicators values b y → (a ≡ b) × (x ≡ y)
  pub read : (values indicators : List ℤ) (a b : ℕ) (x y : List ℤ) → AichRead values indicators a x → AichRead values indicators b y → (a ≡ b) × (x ≡ y)
  pub map_available : (available : ℕ) (indicators values : List ℤ) (a b : ℕ) (x y : List ℤ) → AichMapAvailable available indicators values a x → AichMapAvailable available indicators values b y → (a ≡ b) × (x ≡ y)
  pub read_available : (available : ℕ) (values indicators : List ℤ) (a b : ℕ) (x y : List ℤ) → AichReadAvailable available values indicators a x → AichReadAvailable available values indicators b y → (a ≡ b) × (x ≡ y)
