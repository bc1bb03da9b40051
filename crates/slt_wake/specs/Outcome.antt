-- Wake simulation for C: the answer of the call behind each function, packed (docs/RULES.md, 'Packed answers'), and the tally afterwards: as three lent numbers, and as one lent struct.
-- Assumes nothing.
use Rattle.std.specs.Prelude.{ℕ, ◌≡◌, List}
use Rattle.wake.specs.declared.Tally.{Tally}
use Rattle.wake.specs.Outcome.{frame_verdict, frame_tally, run_verdict, run_tally}
use Rattle.packed.specs.Rule.{packed}

abbrev pub tally_of : ℕ → ℕ → ℕ → Tally
tally_of read woke next = record { read = read; woke = woke; next = next }

-- a run that is refused at a later frame leaves the numbers as the frames before it left them
pub record WakeRun (np pi : ℕ) (frames : List ℕ) (read woke next answer read_after woke_after next_after : ℕ) : Type 0 where
  pub answer_is : answer ≡ packed (run_verdict np pi (tally_of read woke next) frames) 0
  pub read_is : read_after ≡ (run_tally np pi (tally_of read woke next) frames).read
  pub woke_is : woke_after ≡ (run_tally np pi (tally_of read woke next) frames).woke
  pub next_is : next_after ≡ (run_tally np pi (tally_of read woke next) frames).next

pub record WakeStep (t : Tally) (np pi : ℕ) (frame : List ℕ) (answer : ℕ) (t_after : Tally) : Type 0 where
  pub answer_is : answer ≡ packed (frame_verdict np pi t frame) 0
  pub tally_is : t_after ≡ frame_tally np pi t frame
