-- The theorems of the wake simulation (docs/RULES.md, 'Wake simulation'). Each statement is proved in proofs/Exact.antt under its name in small letters.
-- Assumes nothing.
use Rattle.std.specs.Prelude.{ℕ, zero, suc, ◌+◌, ◌*◌, ◌/◌, ◌%◌, ◌≤◌, ◌<◌, ◌≡◌, cond, List, ◌++◌, eqb, length, get_or}
use Rattle.run.specs.Verdict.{Verdict}
use Rattle.run.specs.Verdicts.{done, Narrow}
use Rattle.pich.specs.Rule.{q_of}
use Rattle.pich.specs.Exact.{Gives}
use Rattle.wake.specs.declared.Tally.{Tally}
use Rattle.wake.specs.Simulated.{Simulated}
use Rattle.wake.specs.Rule.{frame_at, wakes, woken}
use Rattle.wake.specs.Outcome.{frame_verdict, frame_tally, Frame, verdict_at, run_verdict, frames_read, run_tally, Run}

-- ---- what a run counts

-- n frames were read. Each of them passes; frame n, where there is one, is refused, and so is the run, with its number and place; where there is none the run is done
pub record Counted (np pi : ℕ) (t : Tally) (frames : List ℕ) (n : ℕ) : Type 0 where
  pub within : n ≤ length frames / 300
  pub passed : (k : ℕ) → k < n → verdict_at np pi t (frame_at frames) k ≡ done
  pub stopped : n < length frames / 300 → (run_verdict np pi t frames ≡ verdict_at np pi t (frame_at frames) n) × ((run_verdict np pi t frames).number ≡ 0 → ⊥)
  pub ended : n ≡ length frames / 300 → run_verdict np pi t frames ≡ done
  pub read_is : (run_tally np pi t frames).read ≡ t.read + n
  pub woke_is : (run_tally np pi t frames).woke ≡ t.woke + woken np pi t.next (frame_at frames) n
  pub next_is : t.next < 4096 → (run_tally np pi t frames).next ≡ (t.next + n) % 4096
  pub next_same : n ≡ 0 → (run_tally np pi t frames).next ≡ t.next

abbrev pub RunCounts : Type 0
RunCounts = (np pi : ℕ) (t : Tally) (frames : List ℕ) → length frames % 300 ≡ 0 → Counted np pi t frames (frames_read np pi t frames)

-- frames of another length are refused before any is read, and no frames are done, whatever the numbers are
pub record Ends (np pi : ℕ) (t : Tally) (frames : List ℕ) : Type 0 where
  pub refused : (length frames % 300 ≡ 0 → ⊥) → (run_verdict np pi t frames ≡ record { number = 3; place = 0 }) × (run_tally np pi t frames ≡ t)
  pub none : length frames ≡ 0 → (run_verdict np pi t frames ≡ done) × (run_tally np pi t frames ≡ t)

abbrev pub RunEnds : Type 0
RunEnds = (np pi : ℕ) (t : Tally) (frames : List ℕ) → Ends np pi t frames

-- a frame that some indicators give wakes the handset exactly where indicator q of them is 1
abbrev pub WakesAtQ : Type 0
WakesAtQ = (np pi sfn : ℕ) (indicators frame : List ℕ) → Gives np indicators frame → wakes np pi sfn frame ≡ eqb (get_or indicators (q_of np pi sfn) 0) 1

-- ---- one call a frame

abbrev pub simulated : Verdict → Tally → Simulated
simulated v t = record { verdict = v; tally = t }

-- a call for each of n frames, up to the first that is refused: what the last call answers, and the tally as it leaves it
unfoldable pub one_by_one : ℕ → ℕ → Tally → (ℕ → List ℕ) → ℕ → Simulated
one_by_one np pi t frame zero = simulated done t
one_by_one np pi t frame (suc n) =
    cond (eqb (frame_verdict np pi t (frame 0)).number 0)
    (one_by_one np pi (frame_tally np pi t (frame 0)) (λ (k : ℕ). frame (suc k)) n)
    (simulated (frame_verdict np pi t (frame 0)) (frame_tally np pi t (frame 0)))

-- .. gives the tally and the refusal of one call over all
abbrev pub StepByStep : Type 0
StepByStep =
    (np pi : ℕ) (t : Tally) (frames : List ℕ) → length frames % 300 ≡ 0
    → one_by_one np pi t (frame_at frames) (length frames / 300) ≡ simulated (run_verdict np pi t frames) (run_tally np pi t frames)

-- ---- two lists of frames

-- a run over both is the run over one and then over the other, where the first is not refused; where it is, the run ends with it
pub record Joined (np pi : ℕ) (t : Tally) (frames more : List ℕ) : Type 0 where
  pub goes_on : run_verdict np pi t frames ≡ done
      → (run_verdict np pi t (frames ++ more) ≡ run_verdict np pi (run_tally np pi t frames) more)
      × (run_tally np pi t (frames ++ more) ≡ run_tally np pi (run_tally np pi t frames) more)
  pub ends_there : ((run_verdict np pi t frames).number ≡ 0 → ⊥)
      → (run_verdict np pi t (frames ++ more) ≡ run_verdict np pi t frames) × (run_tally np pi t (frames ++ more) ≡ run_tally np pi t frames)

abbrev pub RunsJoin : Type 0
RunsJoin = (np pi : ℕ) (t : Tally) (frames more : List ℕ) → length frames % 300 ≡ 0 → length more % 300 ≡ 0 → Joined np pi t frames more

-- ---- 4096 frames

-- a run over 4096 frames that is not refused comes back to its SFN
abbrev pub ComesBack : Type 0
ComesBack =
    (np pi : ℕ) (t : Tally) (frames : List ℕ) → length frames ≡ 300 * 4096 → run_verdict np pi t frames ≡ done
    → (run_tally np pi t frames).next ≡ t.next

-- ---- each promise allows one outcome; number and place fit the 16 and 32 bits that the C boundary has for them

abbrev pub FrameOnce : Type 0
FrameOnce = (np pi : ℕ) (t : Tally) (frame : List ℕ) (a b : Simulated) → Frame np pi t frame a → Frame np pi t frame b → a ≡ b

abbrev pub RunOnce : Type 0
RunOnce = (np pi : ℕ) (t : Tally) (frames : List ℕ) (a b : Simulated) → Run np pi t frames a → Run np pi t frames b → a ≡ b

pub record Packs : Type 0 where
  pub frame_narrow : (np pi : ℕ) (t : Tally) (frame : List ℕ) → Narrow (frame_verdict np pi t frame)
  pub run_narrow : (np pi : ℕ) (t : Tally) (frames : List ℕ) → Narrow (run_verdict np pi t frames)
