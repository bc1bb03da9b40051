-- What an answer of a C call tells, and that a promise allows one outcome. Proved in proofs/Exact.antt, each under its name in small letters.
-- Assumes nothing.
use Rattle.std.specs.Prelude.{ℕ, ◌≡◌, List}
use Rattle.wake.specs.declared.Tally.{Tally}
use Rattle.wake.specs.Outcome.{frame_verdict, run_verdict}
use Rattle.packed.specs.Exact.{Tells}
use Rattle.slt_wake.specs.Outcome.{tally_of, WakeRun, WakeStep}

-- what an answer tells of the call; the value is 0
pub record WakeTells : Type 0 where
  pub run : (np pi : ℕ) (frames : List ℕ) (read woke next answer x y z : ℕ) → WakeRun np pi frames read woke next answer x y z
      → Tells answer (run_verdict np pi (tally_of read woke next) frames) 0
  pub step : (t : Tally) (np pi : ℕ) (frame : List ℕ) (answer : ℕ) (after : Tally) → WakeStep t np pi frame answer after → Tells answer (frame_verdict np pi t frame) 0

-- two outcomes that a promise allows are equal
pub record WakeOnce : Type 0 where
  pub run : (np pi : ℕ) (frames : List ℕ) (read woke next a b x y z r s u : ℕ) → WakeRun np pi frames read woke next a x y z
      → WakeRun np pi frames read woke next b r s u → (a ≡ b) × (x ≡ r) × (y ≡ s) × (z ≡ u)
  pub step : (t : Tally) (np pi : ℕ) (frame : List ℕ) (a b : ℕ) (x y : Tally) → WakeStep t np pi frame a x → WakeStep t np pi frame b y → (a ≡ b) × (x ≡ y)
