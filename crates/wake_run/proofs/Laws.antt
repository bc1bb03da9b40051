-- What the loop over the frames keeps, and one turn of it.
-- Assumes nothing.
use mathlib.Core.Path.{◌≡◌, refl, sym, ap, ◌∙◌, subst}
use mathlib.Core.Bool.{true}
use mathlib.Core.List.{List}
use Prim.Native.Nat.{ℕ, ◌+◌, ◌-◌, ◌*◌, ◌/◌, ◌%◌, ◌<◌}
use borrow.Author.Count.{below_none, below_more}
use lib.ListN.{length, take, drop}
use Rattle.run.specs.First.{Every}
use Rattle.run.specs.Verdicts.{done, refused, unless}
use Rattle.run.proofs.Chain.{number_0, unless_done}
use Rattle.run.proofs.Answers.{stops, left}
use Rattle.run.specs.Answers.{number_of, verdict_of}
use Rattle.run.specs.declared.refusal.Refusal.{Refusal}
use Rattle.std.specs.Prelude.{Result}
use Rattle.std.specs.Result.{IsErrAnd}
use borrow.Author.Tests.{eqb-true}
use lib.Dec.{eqb, lit<}
use Rattle.run.proofs.Parts.{part_lent}
use Rattle.wake.specs.declared.Tally.{Tally}
use Rattle.wake.specs.Simulated.{Simulated}
use Rattle.wake.specs.Rule.{frame_at, tally_at}
use Rattle.wake.specs.Outcome.{frame_verdict, Frame, verdict_at, passes_at, run_head, run_verdict, frames_read, run_tally, Run}
use Rattle.wake.specs.Exact.{simulated}
use Rattle.wake.proofs.Laws.{tally_none, tally_more}
use Rattle.wake.proofs.Frames.{tally_read, tally_kept, is_passes, run_stops, run_ends}

-- k frames are read, and the tally is theirs
pub record Ran (np pi : ℕ) (t : Tally) (frames : List ℕ) (u : Tally) (k : ℕ) : Type 0 where
  pub passed : Every (passes_at np pi t (frame_at frames)) k
  pub tally_is : u ≡ tally_at np pi t (frame_at frames) k

-- frames that are a multiple of 300 digits
pub whole : (frames : List ℕ) → done ≡ unless (eqb (length frames % 300) 0) 3 0 → length frames % 300 ≡ 0
whole frames e = eqb-true _ _ (unless_done _ 3 0 (lit< tt) (number_0 (sym e)))

module _ (np pi : ℕ) (t : Tally) (frames : List ℕ) where
  pub ran_none : Ran np pi t frames t 0
  ran_none = record { passed = below_none (λ (k : ℕ). passes_at np pi t (frame_at frames) k ≡ true); tally_is = sym (tally_none np pi t (frame_at frames)) }

  -- a frame as it is lent, at the tally of the frames before it
  module _ (u : Tally) (k : ℕ) (r : Ran np pi t frames u k) (a : Simulated) (one : Frame np pi u (take (k * 300 + 300 - k * 300) (drop (k * 300) frames)) a) where
    lent : take (k * 300 + 300 - k * 300) (drop (k * 300) frames) ≡ frame_at frames k
    lent = part_lent k 300 (k * 300) (k * 300 + 300) frames refl refl

    frame_is : Frame np pi u (frame_at frames k) a
    frame_is = subst (λ (f : List ℕ). Frame np pi u f a) lent one

    verdict_is : a.verdict ≡ verdict_at np pi t (frame_at frames) k
    unfolding verdict_at
    verdict_is = frame_is.verdict_is ∙ ap (λ (x : Tally). frame_verdict np pi x (frame_at frames k)) r.tally_is

    pub ran_more : done ≡ a.verdict → Ran np pi t frames a.tally (k + 1)
    ran_more e =
        let passes : (verdict_at np pi t (frame_at frames) k).number ≡ 0 = number_0 (sym verdict_is ∙ sym e) in
        record {
          passed = below_more (λ (j : ℕ). passes_at np pi t (frame_at frames) j ≡ true) k r.passed (is_passes np pi t (frame_at frames) k passes);
          tally_is =
              frame_is.tally_is
              ∙ tally_read np pi u (frame_at frames k) (number_0 (sym frame_is.verdict_is ∙ sym e))
              ∙ ap (λ (x : Tally). tally_at np pi x (λ (j : ℕ). frame_at frames k) 1) r.tally_is
              ∙ sym (tally_more np pi t (frame_at frames) k);
        }

    pub ran_stops : length frames % 300 ≡ 0 → k < length frames / 300 → (a.verdict.number ≡ 0 → ⊥) → Run np pi t frames a
    ran_stops whole h e =
        let same : a.tally ≡ tally_at np pi t (frame_at frames) k
        = frame_is.tally_is ∙ tally_kept np pi u (frame_at frames k) (rw (← frame_is.verdict_is) e) ∙ r.tally_is in
        let run = run_stops np pi t frames whole k a.verdict h r.passed verdict_is e in
        record { verdict_is = run.verdict_is; tally_is = same ∙ run.tally_is }

  pub ran_ends : (u : Tally) (k : ℕ) → Ran np pi t frames u k → length frames % 300 ≡ 0 → k ≡ length frames / 300 → Run np pi t frames (simulated done u)
  ran_ends u k r whole h =
      let run = run_ends np pi t frames whole k h r.passed in
      record { verdict_is = run.verdict_is; tally_is = r.tally_is ∙ run.tally_is }

  -- .. and those that are none
  pub run_refused : {A : Type 0} (r : Result A Refusal) (x : Refusal) → IsErrAnd r (λ e. e ≡ x)
      → refused (number_of x.reason) x.place ≡ unless (eqb (length frames % 300) 0) 3 0 → Run np pi t frames (simulated (verdict_of r) t)
  unfolding run_verdict run_head run_tally frames_read
  run_refused r x h e =
      record {
        verdict_is = stops r x _ h e;
        tally_is = sym (tally_none np pi t (frame_at frames)) ∙ ap (tally_at np pi t (frame_at frames)) (left x _ 0 e);
      }
