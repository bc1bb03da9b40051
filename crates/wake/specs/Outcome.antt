-- docs/RULES.md, 'Wake simulation': what each call answers, and the tally that it leaves, for all inputs.
-- Assumes nothing.
use Rattle.std.specs.Prelude.{ℕ, ◌/◌, ◌%◌, ◌≡◌, Bool, ◌&&◌, List, eqb, ltb, length}
use Rattle.run.specs.Verdict.{Verdict}
use Rattle.run.specs.First.{first_bad}
use Rattle.run.specs.Refusals.{length_refused, count_refused}
use Rattle.run.specs.Verdicts.{or_else, unless, chain, leaves}
use Rattle.pich.specs.Outcome.{q_verdict, read_verdict}
use Rattle.wake.specs.declared.Tally.{Tally}
use Rattle.wake.specs.Simulated.{Simulated}
use Rattle.wake.specs.Rule.{frame_at, tally_at}

-- both counts have room for one more: neither is 4294967295
unfoldable pub has_room : ℕ → ℕ → Bool
has_room read woke = ltb read 4294967295 && ltb woke 4294967295

-- one frame: 3, then 32 ..
unfoldable pub frame_head : ℕ → ℕ → ℕ → Verdict
frame_head read woke frameLength = or_else (unless (eqb frameLength 300) length_refused 0) (unless (has_room read woke) count_refused 0)

-- .. then as for q (8, 11) and as for the PICH reader (4, 9); places within the frame
unfoldable pub frame_verdict : ℕ → ℕ → Tally → List ℕ → Verdict
frame_verdict np pi t frame =
    or_else (frame_head t.read t.woke (length frame))
    (or_else (q_verdict np (record { 0 = pi }) t.next)
    (read_verdict np frame np))

-- .. and the tally after it
unfoldable pub frame_tally : ℕ → ℕ → Tally → List ℕ → Tally
frame_tally np pi t frame = leaves (frame_verdict np pi t frame) (tally_at np pi t (λ (k : ℕ). frame) 1) t

pub record Frame (np pi : ℕ) (t : Tally) (frame : List ℕ) (answer : Simulated) : Type 0 where
  pub verdict_is : answer.verdict ≡ frame_verdict np pi t frame
  pub tally_is : answer.tally ≡ frame_tally np pi t frame

-- frame k of a list, at the tally that the frames before it give
unfoldable pub verdict_at : ℕ → ℕ → Tally → (ℕ → List ℕ) → ℕ → Verdict
verdict_at np pi t frame k = frame_verdict np pi (tally_at np pi t frame k) (frame k)

unfoldable pub passes_at : ℕ → ℕ → Tally → (ℕ → List ℕ) → ℕ → Bool
passes_at np pi t frame k = eqb (verdict_at np pi t frame k).number 0

-- a run: 3 where the frames are no multiple of 300 digits ..
unfoldable pub run_head : List ℕ → Verdict
run_head frames = unless (eqb (length frames % 300) 0) length_refused 0

-- .. then frame by frame up to the first that is refused
unfoldable pub run_verdict : ℕ → ℕ → Tally → List ℕ → Verdict
run_verdict np pi t frames = or_else (run_head frames) (chain (length frames / 300) (verdict_at np pi t (frame_at frames)))

-- the number of frames before the first refusal
unfoldable pub frames_read : ℕ → ℕ → Tally → List ℕ → ℕ
frames_read np pi t frames = leaves (run_head frames) (first_bad (passes_at np pi t (frame_at frames)) (length frames / 300)) 0

-- the tally as those frames left it, whether or not a later one is refused
unfoldable pub run_tally : ℕ → ℕ → Tally → List ℕ → Tally
run_tally np pi t frames = tally_at np pi t (frame_at frames) (frames_read np pi t frames)

pub record Run (np pi : ℕ) (t : Tally) (frames : List ℕ) (answer : Simulated) : Type 0 where
  pub verdict_is : answer.verdict ≡ run_verdict np pi t frames
  pub tally_is : answer.tally ≡ run_tally np pi t frames
