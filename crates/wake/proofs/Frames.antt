-- Laws of a list of frames, frame by frame and over all: what a run counts is what one call a frame gives.
-- Assumes nothing.
use mathlib.Core.Path.{◌≡◌, refl, sym, ap, ◌∙◌}
use mathlib.Core.Bool.{Bool, true, false}
use mathlib.Core.List.{List}
use Prim.Native.Nat.{ℕ, zero, suc, ◌+◌, ◌/◌, ◌%◌, ◌<◌}
use native.Mathlib.Omega.{arith}
use borrow.Author.Tests.{eqb-true, eqb-false, eq-eqb, ne_eqb}
use lib.Dec.{eqb}
use lib.ListN.{length}
use Rattle.run.specs.Verdict.{Verdict}
use Rattle.run.specs.First.{first_bad, Every}
use Rattle.run.specs.Verdicts.{done, chain}
use Rattle.run.proofs.First.{first_same, first_none, first_is}
use Rattle.run.proofs.Chain.{or_else_next, unless_pass, unless_plain, each_plain, or_else_plain, leaves_done, leaves_refused, number_0, chain_same, chain_hit, chain_end}
use Rattle.pich.specs.Outcome.{q_verdict, read_head, read_verdict}
use Rattle.wake.specs.declared.Tally.{Tally}
use Rattle.wake.specs.Rule.{frame_at, tally_at}
use Rattle.wake.specs.Outcome.{frame_head, frame_verdict, frame_tally, verdict_at, passes_at, run_head, run_verdict, frames_read, run_tally, Run}
use Rattle.wake.specs.Exact.{simulated, one_by_one}
use Rattle.wake.proofs.Laws.{tally_none, tally_same, tally_add, verdict_add}

pub same_answer : {v w : Verdict} {t u : Tally} → v ≡ w → t ≡ u → simulated v t ≡ simulated w u
same_answer p q = λ i. record { verdict = p i; tally = q i }

-- ---- one frame

-- a frame that is not refused has place 0 too
pub frame_plain : (np pi : ℕ) (t : Tally) (frame : List ℕ) → (frame_verdict np pi t frame).number ≡ 0 → frame_verdict np pi t frame ≡ done
unfolding frame_verdict frame_head q_verdict read_verdict read_head
frame_plain np pi t frame =
    or_else_plain _ _
    (or_else_plain _ _ (unless_plain _ 3 0 (omega arith)) (unless_plain _ 32 0 (omega arith)))
    (or_else_plain _ _
    (or_else_plain _ _ (unless_plain _ 8 0 (omega arith)) (or_else_plain _ _ (unless_plain _ 11 0 (omega arith)) (unless_plain _ 11 1 (omega arith))))
    (or_else_plain _ _
    (or_else_plain _ _ (unless_plain _ 8 0 (omega arith))
    (or_else_plain _ _ (unless_plain _ 3 0 (omega arith))
    (or_else_plain _ _ (unless_plain _ 3 1 (omega arith)) (each_plain 0 4 _ _ (omega arith)))))
    (each_plain 0 9 _ _ (omega arith))))

module _ (np pi : ℕ) (t : Tally) (frame : List ℕ) where
  pub tally_read : (frame_verdict np pi t frame).number ≡ 0 → frame_tally np pi t frame ≡ tally_at np pi t (λ (k : ℕ). frame) 1
  unfolding frame_tally
  tally_read h = leaves_done (frame_verdict np pi t frame) _ t h

  pub tally_kept : ((frame_verdict np pi t frame).number ≡ 0 → ⊥) → frame_tally np pi t frame ≡ t
  unfolding frame_tally
  tally_kept h = leaves_refused (frame_verdict np pi t frame) _ t h

-- ---- frames of a list

module _ (np pi : ℕ) where
  pub passes_is : (t : Tally) (f : ℕ → List ℕ) (k : ℕ) → passes_at np pi t f k ≡ true → (verdict_at np pi t f k).number ≡ 0
  unfolding passes_at
  passes_is t f k e = eqb-true _ _ e

  pub is_passes : (t : Tally) (f : ℕ → List ℕ) (k : ℕ) → (verdict_at np pi t f k).number ≡ 0 → passes_at np pi t f k ≡ true
  unfolding passes_at
  is_passes t f k e = eq-eqb _ _ e

  pub fails_is : (t : Tally) (f : ℕ → List ℕ) (k : ℕ) → passes_at np pi t f k ≡ false → (verdict_at np pi t f k).number ≡ 0 → ⊥
  unfolding passes_at
  fails_is t f k e = eqb-false _ _ e

  pub is_fails : (t : Tally) (f : ℕ → List ℕ) (k : ℕ) → ((verdict_at np pi t f k).number ≡ 0 → ⊥) → passes_at np pi t f k ≡ false
  unfolding passes_at
  is_fails t f k h = ne_eqb _ _ h

  pub passes_same : (t u : Tally) (f g : ℕ → List ℕ) (j k : ℕ) → verdict_at np pi t f j ≡ verdict_at np pi u g k → passes_at np pi t f j ≡ passes_at np pi u g k
  unfolding passes_at
  passes_same t u f g j k e = ap (λ (v : Verdict). eqb v.number 0) e

  -- at the first frame the tally is as it was
  pub verdict_first : (t : Tally) (f : ℕ → List ℕ) → verdict_at np pi t f 0 ≡ frame_verdict np pi t (f 0)
  unfolding verdict_at
  verdict_first t f = ap (λ (u : Tally). frame_verdict np pi u (f 0)) (tally_none np pi t f)

  -- frames that are the same up to the k-th, at the same tally
  pub verdict_same : {t u : Tally} (f g : ℕ → List ℕ) (k : ℕ) → t ≡ u → ((j : ℕ) → j < k + 1 → f j ≡ g j) → verdict_at np pi t f k ≡ verdict_at np pi u g k
  unfolding verdict_at
  verdict_same {t} {u} f g k e same =
      ap (λ (x : Tally). frame_verdict np pi (tally_at np pi x f k) (f k)) e
      ∙ ap (λ (x : Tally). frame_verdict np pi x (f k)) (tally_same np pi u f g k (λ j h. same j (omega arith)))
      ∙ ap (frame_verdict np pi (tally_at np pi u g k)) (same k (omega arith))

  -- the frames after the first, from the tally that it leaves
  module _ (t u : Tally) (f : ℕ → List ℕ) (e : u ≡ tally_at np pi t f 1) where
    abbrev rest : ℕ → List ℕ
    rest k = f (suc k)

    one_on : (j : ℕ) → f (1 + j) ≡ f (suc j)
    one_on j = ap f (let z : 1 + j ≡ suc j = omega arith in z)

    pub tally_rest : (k : ℕ) → tally_at np pi t f (suc k) ≡ tally_at np pi u rest k
    tally_rest k =
        ap (tally_at np pi t f) (let z : suc k ≡ 1 + k = omega arith in z)
        ∙ tally_add np pi t f 1 k
        ∙ tally_same np pi (tally_at np pi t f 1) (λ (j : ℕ). f (1 + j)) rest k (λ j h. one_on j)
        ∙ ap (λ (x : Tally). tally_at np pi x rest k) (sym e)

    pub verdict_rest : (k : ℕ) → verdict_at np pi t f (suc k) ≡ verdict_at np pi u rest k
    verdict_rest k =
        ap (verdict_at np pi t f) (let z : suc k ≡ 1 + k = omega arith in z)
        ∙ verdict_add np pi t f 1 k
        ∙ verdict_same (λ (j : ℕ). f (1 + j)) rest k (sym e) (λ j h. one_on j)

  -- ---- one call a frame

  goes_on : (t : Tally) (f : ℕ → List ℕ) (n : ℕ) → (frame_verdict np pi t (f 0)).number ≡ 0
      → one_by_one np pi t f (suc n) ≡ one_by_one np pi (frame_tally np pi t (f 0)) (λ (k : ℕ). f (suc k)) n
  unfolding one_by_one
  goes_on t f n h = rw (eq-eqb (frame_verdict np pi t (f 0)).number 0 h)

  stops : (t : Tally) (f : ℕ → List ℕ) (n : ℕ) → ((frame_verdict np pi t (f 0)).number ≡ 0 → ⊥)
      → one_by_one np pi t f (suc n) ≡ simulated (frame_verdict np pi t (f 0)) (frame_tally np pi t (f 0))
  unfolding one_by_one
  stops t f n h = rw (ne_eqb (frame_verdict np pi t (f 0)).number 0 h)

  first_passes : (t : Tally) (f : ℕ → List ℕ) (n : ℕ) → passes_at np pi t f 0 ≡ true
      → first_bad (passes_at np pi t f) (suc n) ≡ suc (first_bad (λ (k : ℕ). passes_at np pi t f (suc k)) n)
  unfolding first_bad
  first_passes t f n e = rw e

  chain_next : (n : ℕ) (v : ℕ → Verdict) → (v 0).number ≡ 0 → chain (suc n) v ≡ chain n (λ (k : ℕ). v (suc k))
  unfolding chain
  chain_next n v h = or_else_next _ _ h

  pub one_by_one_lem : (t : Tally) (f : ℕ → List ℕ) (n : ℕ)
      → one_by_one np pi t f n ≡ simulated (chain n (verdict_at np pi t f)) (tally_at np pi t f (first_bad (passes_at np pi t f) n))
  unfolding one_by_one chain first_bad
  one_by_one_lem t f zero = same_answer refl (sym (tally_none np pi t f))
  one_by_one_lem t f (suc n) = side (one_by_one_lem (frame_tally np pi t (f 0)) (λ (k : ℕ). f (suc k)) n) (eqb (frame_verdict np pi t (f 0)).number 0) refl
    where
      side : one_by_one np pi (frame_tally np pi t (f 0)) (λ (k : ℕ). f (suc k)) n
          ≡ simulated (chain n (verdict_at np pi (frame_tally np pi t (f 0)) (λ (k : ℕ). f (suc k)))) (tally_at np pi (frame_tally np pi t (f 0)) (λ (k : ℕ). f (suc k)) (first_bad (passes_at np pi (frame_tally np pi t (f 0)) (λ (k : ℕ). f (suc k))) n))
          → (b : Bool) → eqb (frame_verdict np pi t (f 0)).number 0 ≡ b
          → one_by_one np pi t f (suc n) ≡ simulated (chain (suc n) (verdict_at np pi t f)) (tally_at np pi t f (first_bad (passes_at np pi t f) (suc n)))
      side later true e =
          let h : (frame_verdict np pi t (f 0)).number ≡ 0 = eqb-true _ _ e in
          let h0 : (verdict_at np pi t f 0).number ≡ 0 = rw (verdict_first t f) h in
          let moved : frame_tally np pi t (f 0) ≡ tally_at np pi t f 1
          = tally_read np pi t (f 0) h ∙ tally_same np pi t (λ (k : ℕ). f 0) f 1 (λ k l. ap f (let z : 0 ≡ k = omega arith in z)) in
          let far : first_bad (λ (k : ℕ). passes_at np pi t f (suc k)) n ≡ first_bad (passes_at np pi (frame_tally np pi t (f 0)) (λ (k : ℕ). f (suc k))) n
          = first_same _ _ n (λ k l. passes_same t _ f _ (suc k) k (verdict_rest t (frame_tally np pi t (f 0)) f moved k)) in
          goes_on t f n h
          ∙ later
          ∙ same_answer
          (sym (chain_next n (verdict_at np pi t f) h0 ∙ chain_same n _ (verdict_at np pi (frame_tally np pi t (f 0)) (λ (k : ℕ). f (suc k))) (λ k l. verdict_rest t (frame_tally np pi t (f 0)) f moved k)))
          (sym
          (ap (tally_at np pi t f) (first_passes t f n (is_passes t f 0 h0))
          ∙ tally_rest t (frame_tally np pi t (f 0)) f moved (first_bad (λ (k : ℕ). passes_at np pi t f (suc k)) n)
          ∙ ap (tally_at np pi (frame_tally np pi t (f 0)) (λ (k : ℕ). f (suc k))) far))
      side later false e =
          let h : (frame_verdict np pi t (f 0)).number ≡ 0 → ⊥ = eqb-false _ _ e in
          let h0 : (verdict_at np pi t f 0).number ≡ 0 → ⊥ = rw (verdict_first t f) h in
          stops t f n h
          ∙ same_answer
          (sym (chain_hit (suc n) (verdict_at np pi t f) 0 (omega arith) (λ j l. absurd (let z : ⊥ = omega arith in z)) h0 ∙ verdict_first t f))
          (tally_kept np pi t (f 0) h
          ∙ sym (ap (tally_at np pi t f) (first_is (passes_at np pi t f) (suc n) 0 (omega arith) (λ k l. absurd (let z : ⊥ = omega arith in z)) (λ _. is_fails t f 0 h0)) ∙ tally_none np pi t f))

  -- ---- a run, where the frames are whole

  module _ (t : Tally) (frames : List ℕ) (whole : length frames % 300 ≡ 0) where
    head_done : run_head frames ≡ done
    unfolding run_head
    head_done = unless_pass 3 0 (eq-eqb _ _ whole)

    pub run_is : run_verdict np pi t frames ≡ chain (length frames / 300) (verdict_at np pi t (frame_at frames))
    unfolding run_verdict
    run_is = or_else_next _ _ (number_0 head_done)

    pub read_is : frames_read np pi t frames ≡ first_bad (passes_at np pi t (frame_at frames)) (length frames / 300)
    unfolding frames_read
    read_is = leaves_done (run_head frames) _ 0 (number_0 head_done)

    pub after_is : run_tally np pi t frames ≡ tally_at np pi t (frame_at frames) (first_bad (passes_at np pi t (frame_at frames)) (length frames / 300))
    unfolding run_tally
    after_is = ap (tally_at np pi t (frame_at frames)) read_is

    -- as a loop finds it: k frames are read, and the next is refused
    pub run_stops : (k : ℕ) (v : Verdict) → k < length frames / 300 → Every (passes_at np pi t (frame_at frames)) k → v ≡ verdict_at np pi t (frame_at frames) k
        → (v.number ≡ 0 → ⊥) → Run np pi t frames (simulated v (tally_at np pi t (frame_at frames) k))
    run_stops k v l before e h =
        let bad : (verdict_at np pi t (frame_at frames) k).number ≡ 0 → ⊥ = rw (← e) h in
        record {
          verdict_is = e ∙ sym (run_is ∙ chain_hit _ _ k l (λ j m. passes_is t _ j (before j m)) bad);
          tally_is = sym (after_is ∙ ap (tally_at np pi t (frame_at frames)) (first_is _ _ k (omega arith) before (λ _. is_fails t _ k bad)));
        }

    -- .. or there is no next
    pub run_ends : (k : ℕ) → k ≡ length frames / 300 → Every (passes_at np pi t (frame_at frames)) k → Run np pi t frames (simulated done (tally_at np pi t (frame_at frames) k))
    run_ends k e before =
        let all : Every (passes_at np pi t (frame_at frames)) (length frames / 300) = rw (← e) before in
        record {
          verdict_is = sym (run_is ∙ chain_end _ _ (λ j m. passes_is t _ j (all j m)));
          tally_is = sym (after_is ∙ ap (tally_at np pi t (frame_at frames)) (first_none _ _ all ∙ sym e));
        }
