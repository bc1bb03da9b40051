-- The theorems of specs/Exact.antt.
-- Assumes nothing.
use mathlib.Core.Path.{◌≡◌, refl, sym, ap, ◌∙◌}
use mathlib.Core.Bool.{Bool, true, false}
use mathlib.Core.List.{List, ◌++◌}
use Prim.Native.Nat.{ℕ, ◌+◌, ◌/◌, ◌%◌, ◌<◌}
use native.Mathlib.Omega.{arith}
use borrow.Author.Tests.{ltb-true, ltb-false, ne_eqb}
use lib.Dec.{eqb, ltb, lit<}
use lib.ListN.{length, get_or, length-append}
use Rattle.run.specs.First.{first_bad, Every}
use Rattle.run.specs.Verdicts.{done, unless, chain, Narrow}
use Rattle.run.proofs.First.{first_le, first_below, first_fails, first_none, none_first, first_is, first_in_last}
use Rattle.run.proofs.Chain.{or_else_narrow, check_narrow, unless_narrow, chain_narrow, chain_same, chain_hit, chain_end, chain_done, chain_goes_on, or_else_refused, leaves_refused, number_0, one_outcome}
use Rattle.run.proofs.Parts.{part_front, part_behind}
use Rattle.pich.specs.Rule.{indicators_in, q_of}
use Rattle.pich.proofs.Laws.{asked, taken, frame_length}
use Rattle.pich.proofs.Exact as pich-exact
use Rattle.wake.specs.declared.Tally.{Tally}
use Rattle.wake.specs.Rule.{frame_at, sfn_at, wakes, woken, tally_at}
use Rattle.wake.specs.Outcome.{frame_head, frame_verdict, verdict_at, passes_at, run_head, run_verdict, frames_read, run_tally}
use Rattle.wake.specs.Exact.{Counted, RunCounts, RunEnds, WakesAtQ, StepByStep, RunsJoin, ComesBack, FrameOnce, RunOnce, Packs}
use Rattle.wake.proofs.Laws.{sfn_none, sfn_fits, tally_none, tally_same, tally_add, verdict_add, frame_passed}
use Rattle.wake.proofs.Frames.{same_answer, frame_plain, passes_is, is_passes, fails_is, is_fails, passes_same, verdict_first, verdict_same, one_by_one_lem, run_is, read_is, after_is}

-- ---- what a run counts

module _ (np pi : ℕ) (t : Tally) (frames : List ℕ) where
  abbrev f : ℕ → List ℕ
  f = frame_at frames

  abbrev n : ℕ
  n = frames_read np pi t frames

  -- every frame passes, or one is the first that does not
  all_pass : (run_verdict np pi t frames).number ≡ 0 → length frames % 300 ≡ 0 → Every (passes_at np pi t f) (length frames / 300)
  all_pass h whole k l = is_passes np pi t f k (chain_done _ _ (rw (run_is np pi t frames whole) at h) k l)

  read_fields : (m : ℕ) → n ≡ m → ((run_tally np pi t frames).read ≡ t.read + m) × ((run_tally np pi t frames).woke ≡ t.woke + woken np pi t.next f m) × ((run_tally np pi t frames).next ≡ sfn_at t.next m)
  unfolding run_tally tally_at
  read_fields m e = rw e (refl, refl, refl)

  passed_plain : (k : ℕ) → (verdict_at np pi t f k).number ≡ 0 → verdict_at np pi t f k ≡ done
  unfolding verdict_at
  passed_plain k h = frame_plain np pi (tally_at np pi t f k) (f k) h

  counted : length frames % 300 ≡ 0 → Counted np pi t frames n
  counted whole =
      let e = read_is np pi t frames whole in
      let v = run_is np pi t frames whole in
      let w = first_le (passes_at np pi t f) (length frames / 300) in
      let before : Every (passes_at np pi t f) n = rw e (first_below (passes_at np pi t f) (length frames / 300)) in
      let fields = read_fields n refl in
      record {
        within = omega arith;
        passed = λ k h. passed_plain k (passes_is np pi t f k (before k h));
        stopped = λ h.
            let bad : passes_at np pi t f n ≡ false = rw e (first_fails (passes_at np pi t f) (length frames / 300) (rw e at h)) in
            let refused = fails_is np pi t f n bad in
            let is : run_verdict np pi t frames ≡ verdict_at np pi t f n = v ∙ chain_hit _ _ n h (λ j m. passes_is np pi t f j (before j m)) refused in
            (is, rw is refused);
        ended = λ h. v ∙ chain_end _ _ (λ j m. passes_is np pi t f j (before j (omega arith)));
        read_is = fields.0;
        woke_is = fields.1;
        next_is = λ h. fields.2 ∙ sfn_fits t.next n h;
        next_same = λ h. fields.2 ∙ ap (sfn_at t.next) h ∙ sfn_none t.next;
      }

  -- ---- the ends of a run

  head_refused : (length frames % 300 ≡ 0 → ⊥) → run_head frames ≡ record { number = 3; place = 0 }
  unfolding run_head unless
  head_refused h = rw (ne_eqb _ _ h)

  not_whole : (length frames % 300 ≡ 0 → ⊥) → (run_verdict np pi t frames ≡ record { number = 3; place = 0 }) × (run_tally np pi t frames ≡ t)
  unfolding run_verdict run_tally frames_read
  not_whole h =
      let is = head_refused h in
      let bad : (run_head frames).number ≡ 0 → ⊥ = rw is (λ z. let y : ⊥ = omega arith in y) in (
        or_else_refused _ _ bad ∙ is,
        ap (tally_at np pi t f) (leaves_refused (run_head frames) _ 0 bad) ∙ tally_none np pi t f,
      )

  no_frames : length frames ≡ 0 → (run_verdict np pi t frames ≡ done) × (run_tally np pi t frames ≡ t)
  no_frames h =
      let whole : length frames % 300 ≡ 0 = omega arith in
      let none : length frames / 300 ≡ 0 = omega arith in
      let w = first_le (passes_at np pi t f) (length frames / 300) in (
        run_is np pi t frames whole ∙ chain_end _ _ (λ j m. absurd (let z : ⊥ = omega arith in z)),
        after_is np pi t frames whole ∙ ap (tally_at np pi t f) (let z : first_bad (passes_at np pi t f) (length frames / 300) ≡ 0 = omega arith in z) ∙ tally_none np pi t f,
      )

pub run_counts : RunCounts
run_counts np pi t frames whole = counted np pi t frames whole

pub run_ends : RunEnds
run_ends np pi t frames = record { refused = not_whole np pi t frames; none = no_frames np pi t frames }

pub wakes_at_q : WakesAtQ
unfolding wakes
wakes_at_q np pi sfn indicators frame g =
    let ok = taken np indicators 300 (number_0 g.taken) in
    let long : length frame ≡ 300 = ap length (sym g.written) ∙ frame_length np indicators in
    let back : indicators_in np frame ≡ indicators = (pich-exact.read_exact np frame ok.np_ok long).hands_back indicators g in
    ap (λ (is : List ℕ). eqb (get_or is (q_of np pi sfn) 0) 1) back

-- ---- one call a frame

pub step_by_step : StepByStep
step_by_step np pi t frames whole =
    one_by_one_lem np pi t (frame_at frames) (length frames / 300)
    ∙ same_answer (sym (run_is np pi t frames whole)) (sym (after_is np pi t frames whole))

-- ---- two lists of frames

module _ (np pi : ℕ) (t : Tally) (frames more : List ℕ) (whole : length frames % 300 ≡ 0) (whole_more : length more % 300 ≡ 0) where
  abbrev all : List ℕ
  all = frames ++ more

  abbrev N : ℕ
  N = length frames / 300

  abbrev M : ℕ
  M = length more / 300

  abbrev a : ℕ → List ℕ
  a = frame_at frames

  abbrev b : ℕ → List ℕ
  b = frame_at more

  abbrev g : ℕ → List ℕ
  g = frame_at all

  whole_all : length all % 300 ≡ 0
  whole_all = let l = length-append frames more in omega arith

  many : length all / 300 ≡ N + M
  many = let l = length-append frames more in omega arith

  front : (k : ℕ) → k < N → g k ≡ a k
  front k h = part_front k N 300 frames more h (omega arith)

  behind : (k : ℕ) → g (N + k) ≡ b k
  behind k = part_behind N k 300 frames more (omega arith)

  verdict_front : (k : ℕ) → k < N → verdict_at np pi t g k ≡ verdict_at np pi t a k
  verdict_front k h = verdict_same np pi g a k refl (λ j l. front j (omega arith))

  all_is : run_verdict np pi t all ≡ chain (N + M) (verdict_at np pi t g)
  all_is = run_is np pi t all whole_all ∙ ap (λ (k : ℕ). chain k (verdict_at np pi t g)) many

  all_after : run_tally np pi t all ≡ tally_at np pi t g (first_bad (passes_at np pi t g) (N + M))
  all_after = after_is np pi t all whole_all ∙ ap (λ (k : ℕ). tally_at np pi t g (first_bad (passes_at np pi t g) k)) many

  -- the first list is not refused
  module _ (v : run_verdict np pi t frames ≡ done) where
    pass : Every (passes_at np pi t a) N
    pass = all_pass np pi t frames (number_0 v) whole

    pass_all : Every (passes_at np pi t g) N
    pass_all k h = passes_same np pi t t g a k k (verdict_front k h) ∙ pass k h

    u_is : tally_at np pi t g N ≡ run_tally np pi t frames
    u_is = tally_same np pi t g a N front ∙ sym (after_is np pi t frames whole ∙ ap (tally_at np pi t a) (first_none _ _ pass))

    verdict_behind : (k : ℕ) → verdict_at np pi t g (N + k) ≡ verdict_at np pi (run_tally np pi t frames) b k
    verdict_behind k = verdict_add np pi t g N k ∙ verdict_same np pi (λ (j : ℕ). g (N + j)) b k u_is (λ j _. behind j)

    both_verdict : run_verdict np pi t all ≡ run_verdict np pi (run_tally np pi t frames) more
    both_verdict =
        all_is
        ∙ chain_goes_on N M (verdict_at np pi t g) (λ k h. passes_is np pi t g k (pass_all k h))
        ∙ chain_same M _ (verdict_at np pi (run_tally np pi t frames) b) (λ k _. verdict_behind k)
        ∙ sym (run_is np pi (run_tally np pi t frames) more whole_more)

    abbrev rest : ℕ
    rest = first_bad (passes_at np pi (run_tally np pi t frames) b) M

    far : N + rest ≡ first_bad (passes_at np pi t g) (N + M)
    far = first_in_last (passes_at np pi t g) (passes_at np pi (run_tally np pi t frames) b) N M pass_all (λ j _. sym (passes_same np pi t (run_tally np pi t frames) g b (N + j) j (verdict_behind j)))

    both_tally : run_tally np pi t all ≡ run_tally np pi (run_tally np pi t frames) more
    both_tally =
        all_after
        ∙ ap (tally_at np pi t g) (sym far)
        ∙ tally_add np pi t g N rest
        ∙ tally_same np pi (tally_at np pi t g N) (λ (j : ℕ). g (N + j)) b rest (λ j _. behind j)
        ∙ ap (λ (x : Tally). tally_at np pi x b rest) u_is
        ∙ sym (after_is np pi (run_tally np pi t frames) more whole_more)

  -- it is refused
  module _ (h : (run_verdict np pi t frames).number ≡ 0 → ⊥) where
    abbrev k : ℕ
    k = first_bad (passes_at np pi t a) N

    below : k < N
    below = side (ltb k N) refl
      where
        side : (c : Bool) → ltb k N ≡ c → k < N
        side true e = ltb-true _ _ e
        side false e =
            let every : Every (passes_at np pi t a) N = none_first _ N (ltb-false _ _ e) in
            absurd (h (number_0 (run_is np pi t frames whole ∙ chain_end _ _ (λ j m. passes_is np pi t a j (every j m)))))

    before : Every (passes_at np pi t g) k
    before j m = passes_same np pi t t g a j j (verdict_front j (let l = below in omega arith)) ∙ first_below _ N j m

    bad : (verdict_at np pi t a k).number ≡ 0 → ⊥
    bad = fails_is np pi t a k (first_fails _ N below)

    bad_all : (verdict_at np pi t g k).number ≡ 0 → ⊥
    bad_all = rw (verdict_front k below) bad

    same_verdict : run_verdict np pi t all ≡ run_verdict np pi t frames
    same_verdict =
        all_is
        ∙ chain_hit _ _ k (let l = below in omega arith) (λ j m. passes_is np pi t g j (before j m)) bad_all
        ∙ verdict_front k below
        ∙ sym (run_is np pi t frames whole ∙ chain_hit _ _ k below (λ j m. passes_is np pi t a j (first_below _ N j m)) bad)

    same_after : run_tally np pi t all ≡ run_tally np pi t frames
    same_after =
        all_after
        ∙ ap (tally_at np pi t g) (first_is _ (N + M) k (let l = below in omega arith) before (λ _. is_fails np pi t g k bad_all))
        ∙ tally_same np pi t g a k (λ j m. front j (let l = below in omega arith))
        ∙ sym (after_is np pi t frames whole)

pub runs_join : RunsJoin
runs_join np pi t frames more w x =
    record {
      goes_on = λ v. (both_verdict np pi t frames more w x v, both_tally np pi t frames more w x v);
      ends_there = λ h. (same_verdict np pi t frames more w x h, same_after np pi t frames more w x h);
    }

-- ---- 4096 frames

-- the SFN of a list whose first frame passes is one
first_sfn : (np pi : ℕ) (t : Tally) (f : ℕ → List ℕ) → (verdict_at np pi t f 0).number ≡ 0 → t.next < 4096
first_sfn np pi t f h = (asked np (record { 0 = pi }) t.next (frame_passed np pi t (f 0) (rw (← verdict_first np pi t f) h)).q_ok).sfn_ok

pub comes_back : ComesBack
comes_back np pi t frames long v =
    let whole : length frames % 300 ≡ 0 = omega arith in
    let many : length frames / 300 ≡ 4096 = omega arith in
    let pass = all_pass np pi t frames (number_0 v) whole in
    let below : t.next < 4096 = first_sfn np pi t (frame_at frames) (passes_is np pi t (frame_at frames) 0 (pass 0 (omega arith))) in
    let n-is : frames_read np pi t frames ≡ 4096 = read_is np pi t frames whole ∙ first_none _ _ pass ∙ many in
    (read_fields np pi t frames 4096 n-is).2
    ∙ sfn_fits t.next 4096 below
    ∙ (let z : (t.next + 4096) % 4096 ≡ t.next = omega arith in z)

-- ---- one outcome, and packed answers

pub frame_once : FrameOnce
frame_once np pi t frame a b p q = same_answer (one_outcome p.verdict_is q.verdict_is) (one_outcome p.tally_is q.tally_is)

pub run_once : RunOnce
run_once np pi t frames a b p q = same_answer (one_outcome p.verdict_is q.verdict_is) (one_outcome p.tally_is q.tally_is)

frame_narrow : (np pi : ℕ) (t : Tally) (frame : List ℕ) → Narrow (frame_verdict np pi t frame)
unfolding frame_verdict frame_head
frame_narrow np pi t frame =
    or_else_narrow _ _
    (check_narrow _ 3 0 _ (lit< tt) (lit< tt) (lit< tt) (λ _. unless_narrow _ 32 0 (lit< tt) (lit< tt)))
    (λ _. or_else_narrow _ _ ((pich-exact.packs).q_narrow np (record { 0 = pi }) t.next) (λ _. (pich-exact.packs).read_narrow np frame np))

run_narrow : (np pi : ℕ) (t : Tally) (frames : List ℕ) → Narrow (run_verdict np pi t frames)
unfolding run_verdict run_head verdict_at
run_narrow np pi t frames =
    check_narrow _ 3 0 _ (lit< tt) (lit< tt) (lit< tt)
    (λ _. chain_narrow _ _ (λ k _. frame_narrow np pi (tally_at np pi t (frame_at frames) k) (frame_at frames k)))

pub packs : Packs
packs = record { frame_narrow = frame_narrow; run_narrow = run_narrow }
