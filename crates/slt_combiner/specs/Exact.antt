-- What an answer of a C call tells, and that a promise allows one outcome. Proved in proofs/Exact.antt, each under its name in small letters.
-- Assumes nothing.
use Rattle.std.specs.Prelude.{ℕ, ◌≡◌, List, ℤ, length}
use Rattle.correlator.specs.declared.Complex.{Complex}
use Rattle.combiner.specs.Outcome.{combine_verdict}
use Rattle.packed.specs.Exact.{Tells}
use Rattle.slt_combiner.specs.Outcome.{AichCombine}

-- what an answer tells of the call
abbrev pub CombinerTells : Type 0
CombinerTells =
    (h1 h2 : Complex) (received results : List ℤ) (answer : ℕ) (after : List ℤ) → AichCombine h1 h2 received results answer after
    → Tells answer (combine_verdict h1 h2 received (length results)) 0

-- two outcomes that the promise allows are equal
abbrev pub CombinerOnce : Type 0
CombinerOnce =
    (h1 h2 : Complex) (received results : List ℤ) (a b : ℕ) (x y : List ℤ) → AichCombine h1 h2 received results a x → AichCombine h1 h2 received results b y
    → (a ≡ b) × (x ≡ y)
